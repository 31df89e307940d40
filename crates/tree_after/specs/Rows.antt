-- Nodes as they are written one after another: the branches of a routing node, then the node on top of them.
use Rattle.path.specs.declared.level.Level.{Level}
use Rattle.geometry.specs.declared.rect.Side.{Side}
use Rattle.std.specs.Prelude.{ℕ, suc, ◌+◌, ◌*◌, ◌-◌, ◌≤◌, ◌<◌, Bool, true, not, cond, ◌≡◌, eqb, length, take, drop}
use mathlib.Core.List.{List, [], ◌∷◌, ◌++◌, flat_map}
use Rattle.geometry.specs.declared.rect.Rect.{Rect}
use Rattle.tree.specs.Lists.{total}
use Rattle.tree.specs.Nodes.{Item, nodes}
use Rattle.tree.specs.Plan.{clips}
use Rattle.tree.specs.Pass.{deep}
use Rattle.plane.specs.Fanout.{fanout, index_space}
use Rattle.memory.specs.Image.{node_part, write_row, write_node}
use Rattle.layout.specs.declared.node.Node.{Node}
use Rattle.layout.specs.Loaded.{node_of, routing_of, with_child}
use Rattle.layout.specs.Nodes.{count_at}
use Rattle.walks.specs.Walks.{Walkable}
use Rattle.split_line.specs.Sides.{sides_of}
use Rattle.path.specs.Path.{part_on, place_on, HasLevel, FewRects}
use Rattle.tree_after.specs.declared.node.Branches.{Branches}
use Rattle.tree_after.specs.Writes.{Writes}
use Rattle.tree_after.specs.Path.{row_at}

-- A level of the path above the leaf, with what its node's branches need: they are one level lower.
pub record PathStep (level : ℕ) (path : List Level) (m : List ℕ) : Type 0 where
  pub some : 1 ≤ level
  pub walk : Walkable (suc (level - 1)) m 0 (part_on path level)
  pub room : HasLevel level path
  pub few : FewRects level path
  pub place : place_on path level < count_at m (part_on path level)

-- whether a node with so many items under sides is written: 'a half without entries is dropped'
unfoldable pub kept : List Side → ℕ → Bool
kept [] count = true
kept (s ∷ ss) count = not (eqb count 0)

-- how many parts the node takes, and their numbers
unfoldable pub node_parts : List Side → ℕ → ℕ
node_parts ss count = cond (kept ss count) 1 0

unfoldable pub branch_numbers : List Rect → Node → List Side → List ℕ
branch_numbers p n ss = cond (kept ss n.count) (node_part (clips index_space (sides_of ss) p) n.count n.items) []

-- A node with the polygon p under sides was written to w at part next, if it is kept, which gives w'; r is the next
-- free part.
pub record NodeWritten (p : List Rect) (n : Node) (ss : List Side) (w : List ℕ) (next : ℕ) (w' : List ℕ) (r : ℕ) : Type 0 where
  pub next_is : r ≡ next + node_parts ss n.count
  pub written : take (64 + 128 * r) w' ≡ take (64 + 128 * next) w ++ branch_numbers p n ss
  pub same_length : length w' ≡ length w

-- The node fits into w at part next.
pub record NodeRoom (ss : List Side) (n : Node) (w : List ℕ) (next : ℕ) : Type 0 where
  pub fits : 64 + 128 * (next + node_parts ss n.count) ≤ length w
  pub small : length w ≤ 32832

-- the top nodes with one more, where parts were written up to the part after; the same where none were
unfoldable pub with_branch : Branches → ℕ → Branches
with_branch t after =
    cond (eqb after t.next) t
    (record { next = after; node = with_child t.node (after - 1) })

-- no top node, before the part next is written
abbrev pub no_branches : ℕ → Branches
no_branches next = record { next = next; node = node_of 0 [] }

-- Some branches were written to w behind those with the top nodes t, which gives w' and the top nodes t'.
pub record Grows (n : ℕ) (w : List ℕ) (t : Branches) (bs : List (Item index_space (suc n))) (w' : List ℕ)
    (t' : Branches) : Type 0 where
  pub writes : Writes n w t.next bs w' t'.next
  pub count_is : t'.node.count ≡ t.node.count + length bs
  -- their top nodes follow the children that the node had
  pub children : (ks : List ℕ) → t.node ≡ routing_of ks
      → t'.node ≡ routing_of (ks ++ (write_row (write_node fanout n) t.next bs).roots)

-- what remains under sides of the branches of the node at part k from the a-th to before the b-th
unfoldable pub range_under : (n : ℕ) → List ℕ → ℕ → ℕ → ℕ → List Side → List (Item index_space (suc n))
range_under n m k a b ss = flat_map (deep index_space (suc n) (sides_of ss)) (take (b - a) (drop a (row_at n m k)))

-- the same of the branches before the place of the path at a level, and of those behind it; their level is one lower
abbrev pub before_on : (n : ℕ) → List Level → List ℕ → List Side → List (Item index_space (suc (n - 1)))
before_on n path m ss = range_under (n - 1) m (part_on path n) 0 (place_on path n) ss

abbrev pub behind_on : (n : ℕ) → List Level → List ℕ → List Side → List (Item index_space (suc (n - 1)))
behind_on n path m ss = range_under (n - 1) m (part_on path n) (place_on path n + 1) (count_at m (part_on path n)) ss

-- The last branches of a node were written to w behind those with the top nodes t, and then the node itself, which
-- gives w'.
pub record RestWritten (n : ℕ) (p : List Rect) (ss : List Side) (bs : List (Item index_space (suc n))) (w : List ℕ)
    (t : Branches) (w' : List ℕ) (r : ℕ) : Type 0 where
  pub mid : List ℕ
  pub all : Branches
  pub branches : Grows n w t bs mid all
  pub top : NodeWritten p all.node ss mid all.next w' r

-- Those branches and the node fit into w.
pub record RestRoom (n : ℕ) (ss : List Side) (bs : List (Item index_space (suc n))) (w : List ℕ)
    (t : Branches) : Type 0 where
  pub fits : 64 + 128 * (t.next + total (nodes index_space (suc n)) bs + node_parts ss
      (t.node.count + length bs)) ≤ length w
  pub small : length w ≤ 32832
