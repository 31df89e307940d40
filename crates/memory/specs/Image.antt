-- The image of a tree: a memory of N parts that reads as that tree. Document 01: 'Each sound tree of at most N nodes
-- has an accepted image.' Which parts the nodes take is left free; this image takes the first ones, in depth-first
-- order, a node after its children.
-- docs/RULES.md 3.17
use Rattle.std.specs.Prelude.{ℕ, zero, suc, ◌+◌, ◌*◌, ◌-◌, ◌^◌, min, length, replicate}
use mathlib.Core.List.{List, [], ◌∷◌, ◌++◌, map, flat_map}
use Rattle.geometry.specs.declared.rect.Rect.{Rect}
use Rattle.geometry.specs.Numbers.{numbers_of}
use Rattle.tree.specs.Nodes.{Item}
use Rattle.tree.specs.Tree.{Tree, top}
use Rattle.plane.specs.Best.{up_from}
use Rattle.plane.specs.Lines.{CellEntry}
use Rattle.plane.specs.Plane.{plane_space}

-- a list filled up with zeros to n numbers
unfoldable pub padded : ℕ → List ℕ → List ℕ
padded n l = l ++ replicate (n - length l) 0

-- the numbers of an entry
unfoldable pub entry_numbers : CellEntry → List ℕ
entry_numbers e = e.cell.x ∷ e.cell.y ∷ e.tag ∷ []

-- the 128 numbers of a node's part: its polygon, the count of its items and their numbers
unfoldable pub node_part : List Rect → ℕ → List ℕ → List ℕ
node_part p count items = length p ∷ count ∷ (padded 64 (numbers_of p) ++ padded 62 items)

-- the j-th word of bits: a bit for each of the parts from 32 × j on, as far as they are among the first `used`
unfoldable pub bits_word : ℕ → ℕ → ℕ
bits_word used j = 2 ^ min 32 (used - 32 * j) - 1

-- the first 64 numbers: a bit for each of the first `used` parts, the height and the root's part, which is the last
-- used
unfoldable pub head_numbers : ℕ → ℕ → List ℕ
head_numbers used height = padded 64 (map (bits_word used) (up_from 0 8) ++ (height ∷ (used - 1) ∷ []))

-- the memory of N parts whose first parts are these, the last of them the root's
unfoldable pub memory_of : ℕ → ℕ → List (List ℕ) → List ℕ
memory_of N height parts = padded (64 + 128 * N) (head_numbers (length parts) height ++ flat_map (λ p. p) parts)

-- the parts of some subtrees, the first of which gets the number next, and the parts of their top nodes
pub record WrittenRow : Type 0 where
  pub parts : List (List ℕ)
  pub roots : List ℕ

unfoldable pub write_row : {B : Type 0} → (ℕ → B → List (List ℕ)) → ℕ → List B → WrittenRow
write_row write next [] = record { parts = []; roots = [] }
write_row write next (b ∷ bs) =
    let own = write next b in
    let others = write_row write (next + length own) bs in
    record { parts = own ++ others.parts; roots = (next + length own - 1) ∷ others.roots }

module _ (fanout : ℕ) where
  -- the parts of a node's subtree, the first of which gets the number next; the node's own part is the last
  unfoldable pub write_node : (n : ℕ) → ℕ → Item (plane_space fanout) (suc n) → List (List ℕ)
  write_node zero next b = node_part b.poly (length b.child) (flat_map entry_numbers b.child) ∷ []
  write_node (suc n) next b =
      let below = write_row (write_node n) next b.child in
      below.parts ++ (node_part b.poly (length b.child) below.roots ∷ [])

  -- the image of a tree in a memory of N parts
  unfoldable pub image : ℕ → Tree (plane_space fanout) → List ℕ
  image N t = memory_of N (suc t.level) (write_node t.level 0 (top (plane_space fanout) t))
