-- Writing nodes into a work area, append-only: a part for each node, children before their node, in the form of the
-- memory's image.
use Rattle.std.specs.Prelude.{ℕ, suc, ◌+◌, ◌*◌, ◌≤◌, min, ◌≡◌, length, take}
use mathlib.Core.List.{List, [], ◌++◌, flat_map}
use Rattle.std.proofs.Math.Option.{Option, none, some}
use Rattle.geometry.specs.declared.rect.Side.{Side}
use Rattle.tree.specs.Lists.{total}
use Rattle.tree.specs.Nodes.{Item, nodes}
use Rattle.tree.specs.Pass.{deep}
use Rattle.plane.specs.Fanout.{fanout, index_space}
use Rattle.memory.specs.Image.{write_row, write_node}
use Rattle.memory.specs.Reading.{read_node}
use Rattle.split_line.specs.Sides.{sides_of}

-- The nodes of some branches were written to w from part next on, which gives w'; next' is the next free part.
pub record Writes (n : ℕ) (w : List ℕ) (next : ℕ) (bs : List (Item index_space (suc n))) (w' : List ℕ)
    (next' : ℕ) : Type 0 where
  -- what stood before them is kept, and they follow
  pub written : take (64 + 128 * next') w' ≡ take (64 + 128 * next) w
      ++ flat_map (λ p. p) (write_row (write_node fanout n) next bs).parts
  pub next_is : next' ≡ next + total (nodes index_space (suc n)) bs
  pub same_length : length w' ≡ length w

-- The nodes of some branches fit into w from part next on.
pub record Room (n : ℕ) (w : List ℕ) (next : ℕ) (bs : List (Item index_space (suc n))) : Type 0 where
  pub fits : 64 + 128 * (next + total (nodes index_space (suc n)) bs) ≤ length w
  pub small : length w ≤ 32832

-- the most nodes that are counted: one more than any memory has
abbrev pub count_limit : ℕ
count_limit = 257

-- how many nodes some branches have, up to that limit
unfoldable pub counted : (n : ℕ) → List (Item index_space (suc n)) → ℕ
counted n bs = min count_limit (total (nodes index_space (suc n)) bs)

-- what remains of a node that was read under some sides
unfoldable pub deep_of : (n : ℕ) → List Side → Option (Item index_space (suc n)) → List (Item index_space (suc n))
deep_of n ss none = []
deep_of n ss (some b) = deep index_space (suc n) (sides_of ss) b

-- the same of the node at part k
unfoldable pub deep_at : (n : ℕ) → List ℕ → ℕ → ℕ → List Side → List (Item index_space (suc n))
deep_at n m lo k ss = deep_of n ss (read_node fanout n m lo k)
