-- A.6: 'the total removed by siblings, summed over all levels', as the descent adds it up.
use Rattle.path.specs.declared.level.Level.{Level}
use Rattle.std.specs.Prelude.{ℕ, ◌+◌, List, ◌≡◌}
use Rattle.std.proofs.Math.Option.{some}
use Rattle.geometry.specs.declared.rect.Cell.{Cell}
use Rattle.tree.specs.Tree.{Tree}
use Rattle.tree.specs.Removed.{removed_at}
use Rattle.plane.specs.Fanout.{fanout, index_space}
use Rattle.memory.specs.Reading.{reading}
use Rattle.answers.specs.Answers.{cells_removed}
use Rattle.path.specs.Path.{part_on, polygon_on}
use Rattle.insertion.specs.Descent.{items_at}

-- The number is that of the levels above, and that of the node on the path at the level n and of all below it.
pub record RemovedBelow (n : ℕ) (path : List Level) (m : List ℕ) (c : Cell) (above removed : ℕ) : Type 0 where
  pub is : removed ≡ above + removed_at index_space n (polygon_on path n) (items_at n m (part_on path n)) c

-- The number is the total of the insertion of the cell into the tree that the memory reads as.
pub record RemovedIs (m : List ℕ) (c : Cell) (removed : ℕ) : Type 0 where
  pub is : (x : Tree index_space) → reading fanout m ≡ some (some x) → removed ≡ cells_removed (some x) c
