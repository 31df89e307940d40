-- The extents that the code collects.
use Rattle.std.specs.Prelude.{List, take}
use Rattle.geometry.specs.declared.rect.Rect.{Rect}
use Rattle.split_line.specs.declared.extents.Extents.{Extents}

-- the list that it holds
abbrev pub extents_of : Extents → List Rect
extents_of s = take s.count s.rects
