-- The rectangles that are left of a list.
use Rattle.std.specs.Prelude.{ℕ, List, [], ◌∷◌}
use Rattle.geometry.specs.declared.rect.Rect.{Rect}
use Rattle.geometry.specs.declared.rects.Rects.{Rects}

-- the rectangles of some numbers, four each
unfoldable pub rects_of_numbers : List ℕ → List Rect
rects_of_numbers (a ∷ b ∷ c ∷ d ∷ l) = record { llx = a; lly = b; urx = c; ury = d } ∷ rects_of_numbers l
rects_of_numbers l = []

-- those of the numbers that are left
abbrev pub rects_left : Rects → List Rect
rects_left s = rects_of_numbers s.left.now
