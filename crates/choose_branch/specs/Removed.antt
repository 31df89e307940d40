-- A.6: 'the cells of each grown rectangle that some sibling has', on memory.
use Rattle.std.specs.Prelude.{ℕ, suc, ◌≤◌, List, [], ◌∷◌, ◌≡◌}
use Rattle.std.proofs.Math.Option.{some}
use Rattle.geometry.specs.declared.rect.Cell.{Cell}
use Rattle.geometry.specs.declared.rect.Rect.{Rect}
use Rattle.area.specs.Removed.{removed}
use Rattle.tree.specs.Nodes.{Item}
use Rattle.plane.specs.Fanout.{fanout, index_space}
use Rattle.memory.specs.Reading.{read_node}

-- The number is that of the cells that the rectangles ss remove from g; it is never more than the grid has.
pub record RemovedBy (g : Rect) (ss : List Rect) (cells : ℕ) : Type 0 where
  pub is : cells ≡ removed (g ∷ []) ss
  pub small : cells ≤ 4294967296

-- The number is the tree's, of every reading of the node at part k.
pub record RemovedAt (m : List ℕ) (k : ℕ) (c : Cell) (cells : ℕ) : Type 0 where
  pub is : (n lo : ℕ) (b : Item index_space (suc (suc n)))
      → read_node fanout (suc n) m lo k ≡ some b → cells ≡ index_space.removed b.child c
  pub small : cells ≤ 4294967296
