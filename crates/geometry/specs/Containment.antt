-- Document 02, A.3: what the containment test of a list of rectangles and a cell reports.
-- docs/RULES.md 2.26
use Rattle.std.specs.Prelude.{ℕ, List}
use Rattle.polygons.specs.Lists.{compared_by}
use Rattle.geometry.specs.declared.rect.Cell.{Cell}
use Rattle.geometry.specs.declared.rect.Rect.{Rect}
use Rattle.geometry.specs.declared.containment.Containment.{Containment}
use Rattle.geometry.specs.Cells.{has_cell, any_has}

-- 'how many rectangles it compared: up to and with the first that has the cell, or all if none has it'
unfoldable pub compared : List Rect → Cell → ℕ
compared l c = compared_by (λ r. has_cell r c) l

-- whether some rectangle has the cell, and how many were compared
unfoldable pub containment : List Rect → Cell → Containment
containment l c = record { has = any_has l c; compared = compared l c }
