-- Document 01, 'A window query takes a rectangle': which cells and polygons match it.
-- docs/RULES.md 2.7, 5.8, 5.9
use Rattle.std.specs.Prelude.{ℕ, Bool, List}
use Rattle.polygons.specs.Lists.{any}
use Rattle.geometry.specs.declared.rect.Cell.{Cell}
use Rattle.geometry.specs.declared.rect.Rect.{Rect}
use Rattle.geometry.specs.Cells.{has_cell}
use Rattle.geometry.specs.Common.{shares_with}
use Rattle.tree.specs.Query.{Window}
use Rattle.plane.specs.Plane.{plane_space}

-- 'each matching entry': its cell is in the window
abbrev pub inside : Rect → Cell → Bool
inside w c = has_cell w c

-- 'nodes whose polygon shares a cell with it'
unfoldable pub meets : List Rect → Rect → Bool
meets p w = any (shares_with w) p

-- the plane's windows
abbrev pub plane_window : (fanout : ℕ) → Window (plane_space fanout)
plane_window fanout = record { W = Rect; inside = inside; meets = meets }
