-- Where a leaf holds the entry of a cell.
use Rattle.std.specs.Prelude.{ℕ, ◌<◌, true, List, ◌≡◌}
use Rattle.geometry.specs.declared.rect.Cell.{Cell}
use Rattle.memory.specs.Layout.{item_count, entry_in}
use Rattle.layout.specs.Nodes.{NodePart}
use Rattle.walks.specs.Walks.{cell_test}

-- The i-th entry of a leaf's part is of the cell.
pub record EntryPlace (p : List ℕ) (c : Cell) (i : ℕ) : Type 0 where
  pub inside : i < item_count p
  pub is : cell_test c (entry_in p i) ≡ true

-- A leaf's part holds an entry of the cell.
pub record HoldsCell (p : List ℕ) (c : Cell) : Type 0 where
  pub leaf : NodePart p
  pub at : ℕ
  pub place : EntryPlace p c at
