-- A leaf under sides, by the numbers of its part.
use Rattle.std.specs.Prelude.{ℕ, List}
use Rattle.geometry.specs.declared.rect.Side.{Side}
use Rattle.tree.specs.Nodes.{Item}
use Rattle.tree.specs.Plan.{branch_under}
use Rattle.plane.specs.Lines.{CellEntry}
use Rattle.plane.specs.Fanout.{index_space}
use Rattle.memory.specs.Layout.{polygon_in}
use Rattle.walks.specs.Walks.{leaf_entries}
use Rattle.split_line.specs.Sides.{sides_of, on_test}

-- the entries of a leaf's part that are on every side
unfoldable pub leaf_remaining : List Side → List ℕ → List CellEntry
leaf_remaining ss p = leaf_entries (on_test ss) p

-- what remains of the leaf under the sides: one branch or none
unfoldable pub leaf_under : List Side → List ℕ → List (Item index_space 1)
leaf_under ss p = branch_under index_space (sides_of ss) (polygon_in p) (leaf_remaining ss p)
