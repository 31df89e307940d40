-- The cut of a list by a polygon: its answer, with the number of cells removed (request A.6), and what it leaves.
-- docs/RULES.md 2.32
use Rattle.std.specs.Prelude.{ℕ, List, ◌≡◌, Result, Ok, Err}
use Rattle.area.specs.Removed.{removed}
use Rattle.drawing.specs.declared.answer.PolygonCut.{PolygonCut}
use Rattle.drawing.specs.declared.answer.Refusal.{Refusal}
use Rattle.drawing.specs.Arguments.{given}
use Rattle.drawing.specs.Answers.{answer_of, result_of}
use Rattle.drawing.specs.Calls.{valid_with_polygon, cut_polygon_drawn}

-- the answer of a cut, and where it is accepted the number of cells removed too
unfoldable pub with_removed : Result ℕ Refusal → ℕ → Result PolygonCut Refusal
with_removed (Ok n) cells = Ok (record { rects = n; removed = cells })
with_removed (Err r) cells = Err r

-- The answer for a list, a polygon and a result list: 'Cutting a list by a polygon shall also give the number of cells
-- it removed, a cell under several rectangles counted once.'
abbrev pub polygon_cut_answer : List ℕ → List ℕ → List ℕ → Result PolygonCut Refusal
polygon_cut_answer list p out =
    with_removed (answer_of (valid_with_polygon list p out) (cut_polygon_drawn list p)) (removed (given list) (given p))

-- for these, the result list at exit from that at entry
abbrev pub polygon_cut_result : List ℕ → List ℕ → List ℕ → List ℕ
polygon_cut_result list p out = result_of (valid_with_polygon list p out) (cut_polygon_drawn list p) out

-- What the call promises: its answer, and the whole result list at exit.
pub record PolygonCutDrawn (list p out : List ℕ) (a : Result PolygonCut Refusal) (out' : List ℕ) : Type 0 where
  pub answer : a ≡ polygon_cut_answer list p out
  pub result : out' ≡ polygon_cut_result list p out
