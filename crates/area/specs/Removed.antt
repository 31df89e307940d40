-- The cells that a polygon removes from a list of rectangles, and the areas of a list.
-- docs/RULES.md 2.32
use Rattle.std.specs.Prelude.{ℕ, ◌+◌, List, [], ◌∷◌}
use Rattle.polygons.specs.Rules.{removed_by}
use Rattle.geometry.specs.declared.rect.Rect.{Rect}
use Rattle.geometry.specs.Cells.{has_cell, area}
use Rattle.area.specs.CellCount.{cell_count}

-- A.6: 'the number of cells it removed, a cell under several rectangles counted once': of the list l cut by the
-- polygon p
unfoldable pub removed : List Rect → List Rect → ℕ
removed l p = removed_by cell_count has_cell l p

-- the sum of the areas of a list, for the code
unfoldable pub total_area : List Rect → ℕ
total_area [] = 0
total_area (r ∷ l) = area r + total_area l
