-- The bounds of a list of rectangles: the smallest rectangle around them. What lies outside it, the list lacks.
-- docs/RULES.md 4.4
use Rattle.std.specs.Prelude.{List, [], ◌∷◌}
use Rattle.geometry.specs.declared.rect.Rect.{Rect}
use Rattle.geometry.specs.Cells.{no_rect}
use Rattle.geometry.specs.Refine.{union}

-- the smallest rectangle around b and the rectangles of a list
unfoldable pub bounds_from : Rect → List Rect → Rect
bounds_from b [] = b
bounds_from b (r ∷ l) = bounds_from (union b r) l

-- the smallest rectangle around the rectangles of a list; `no_rect`, which has no cell, around none
unfoldable pub bounds_of : List Rect → Rect
bounds_of [] = no_rect
bounds_of (r ∷ l) = bounds_from r l
