-- A polygon written as Well-Known Binary (request A.4): the call's answer, its number, and what it leaves.
-- docs/RULES.md 2.19, 2.31
use Rattle.std.specs.Prelude.{ℕ, ◌/◌, Bool, true, false, List, ◌++◌, ◌≡◌, leb, length, drop, Result, Ok, Err}
use Rattle.polygons.specs.Limits.{most_of_polygon}
use Rattle.geometry.specs.declared.rect.Rect.{Rect}
use Rattle.wkb.specs.Collection.{collection_bytes, wkb_length}
use Rattle.drawing.specs.declared.answer.Refusal.{Refusal}
use Rattle.drawing.specs.declared.answer.Refusal.TheVariants.{Invalid, ShortOutput}
use Rattle.drawing.specs.Arguments.{given, is_list}

-- The answer, from whether the polygon is valid, whether the output has room, and how many bytes there are:
-- '11, the output is shorter than that length, .. tested after 3'
unfoldable pub wkb_of : Bool → Bool → ℕ → Result ℕ Refusal
wkb_of false room n = Err Invalid
wkb_of true false n = Err ShortOutput
wkb_of true true n = Ok n

-- the answer for a polygon and an output: 'an invalid rectangle or list, or a count outside 1 to 16, gets 3'
abbrev pub wkb_answer : List ℕ → List ℕ → Result ℕ Refusal
wkb_answer p out =
    wkb_of (is_list most_of_polygon p) (leb (wkb_length (length p / 4)) (length out)) (wkb_length (length p / 4))

-- The output at exit: the rectangles' bytes at its front, 'and bytes beyond it stay'; after a refusal 'nothing
-- written'.
abbrev pub output_of : Result ℕ Refusal → List Rect → List ℕ → List ℕ
output_of (Ok n) rs out = collection_bytes rs ++ drop n out
output_of (Err r) rs out = out

-- for a polygon, the output at exit from that at entry
abbrev pub wkb_output : List ℕ → List ℕ → List ℕ
wkb_output p out = output_of (wkb_answer p out) (given p) out

-- What the call promises for a polygon and an output: its answer, and the whole output at exit.
pub record WkbWritten (p out : List ℕ) (a : Result ℕ Refusal) (out' : List ℕ) : Type 0 where
  pub answer : a ≡ wkb_answer p out
  pub output : out' ≡ wkb_output p out
