-- The cells of a rectangle that a polygon lacks, and the extra area of a polygon's rectangle.
-- docs/RULES.md 2.10
use Rattle.std.specs.Prelude.{ℕ, List}
use Rattle.polygons.specs.Rules.{lacked_by, extra_area_by}
use Rattle.geometry.specs.declared.rect.Cell.{Cell}
use Rattle.geometry.specs.declared.rect.Rect.{Rect}
use Rattle.geometry.specs.Cells.{has_cell}
use Rattle.geometry.specs.Grow.{grown}
use Rattle.area.specs.CellCount.{cell_count}

-- how many cells of a rectangle a polygon lacks
unfoldable pub lacked : List Rect → Rect → ℕ
lacked p r = lacked_by cell_count has_cell p r

-- 'extra area is the number of cells of the grown rectangle that the whole polygon lacks'
unfoldable pub extra_area : List Rect → Rect → Cell → ℕ
extra_area p r c = extra_area_by cell_count has_cell grown p r c
