-- What the calls of the drawing exercise accept. Document 01: 'Called so, they take 1 to 256 rectangles (a cutting
-- polygon 1 to 16), write to a list of exactly 256 rectangles'.
-- docs/RULES.md 2.20 to 2.22
use Rattle.std.specs.Prelude.{ℕ, ◌/◌, ◌%◌, Bool, ◌&&◌, List, leb, eqb, length, true, false, Result, Ok, Err, ⊤}
use Rattle.geometry.specs.declared.rect.Rect.{Rect}
use Rattle.geometry.specs.Cells.{all_valid}
use Rattle.geometry.specs.Numbers.{rects_in}
use Rattle.drawing.specs.declared.answer.Refusal.{Refusal}
use Rattle.drawing.specs.declared.answer.Refusal.TheVariants.{Invalid}

-- the rectangles that were lent, four numbers each
abbrev pub given : List ℕ → List Rect
given m = rects_in m (length m / 4)

-- the numbers are whole rectangles, 1 up to a limit of them, and all of them valid
unfoldable pub is_list : ℕ → List ℕ → Bool
is_list most m = eqb (length m % 4) 0 && leb 1 (length m / 4) && leb (length m / 4) most && all_valid (given m)

-- 'a list of exactly 256 rectangles'
unfoldable pub is_result : List ℕ → Bool
is_result m = eqb (length m) 1024

-- 'An invalid rectangle, cell, count or result list length is refused with 3': what a test of an argument answers
unfoldable pub accepted : Bool → Result ⊤ Refusal
accepted true = Ok tt
accepted false = Err Invalid
