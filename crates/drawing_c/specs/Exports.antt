-- What the forms of the drawing exercise's calls for C promise: the number returned, and the values stored, from the
-- answers of the crate drawing.
-- docs/RULES.md 2.21 to 2.25, 2.31, 2.32, 8.10
use Rattle.std.specs.Prelude.{ℕ, Bool, cond, List, ◌≡◌, Result, Ok, Err}
use Rattle.std.proofs.Math.Option.{Option}
use Rattle.geometry.specs.declared.rect.Rect.{Rect}
use Rattle.geometry.specs.declared.containment.Containment.{Containment}
use Rattle.drawing.specs.declared.answer.PolygonCut.{PolygonCut}
use Rattle.drawing.specs.declared.answer.Refusal.{Refusal}
use Rattle.drawing.specs.declared.answer.Refusal.TheVariants.{Invalid, TooMany, ShortOutput}
use Rattle.drawing.specs.Answers.{answer_of, result_of}
use Rattle.drawing.specs.PolygonCut.{polygon_cut_answer, polygon_cut_result}
use Rattle.drawing.specs.Wkb.{wkb_answer, wkb_output}

-- Document 01's number of each refusal: 'An invalid rectangle, cell, count or result list length is refused with 3, a
-- list over 256 after a single cut with 7'; '11, the output is shorter than that length'
abbrev pub refusal_number : Refusal → ℕ
refusal_number Invalid = 3
refusal_number TooMany = 7
refusal_number ShortOutput = 11

-- the number of each answer; 0 where the call accepts
abbrev pub number : {A : Type 0} → Result A Refusal → ℕ
number (Ok a) = 0
number (Err r) = refusal_number r

-- 'report how many rectangles they wrote': the reported number at exit, which a refusal leaves as it was
abbrev pub reported : Result ℕ Refusal → ℕ → ℕ
reported (Ok n) before = n
reported (Err r) before = before

-- What a call's form for C promises: document 01's number, the result list and the reported number at exit.
pub record Exported (valid : Bool) (limited : Option (List Rect)) (out : List ℕ) (told : ℕ) (n : ℕ) (out' : List ℕ)
    (told' : ℕ) : Type 0 where
  pub refusal : n ≡ number (answer_of valid limited)
  pub result : out' ≡ result_of valid limited out
  pub count : told' ≡ reported (answer_of valid limited) told

-- The two values of the containment test at exit, from those at entry: 1 where a rectangle has the cell and 0 where
-- none has it; how many were compared. A refusal leaves both as they were.
abbrev pub has_reported : Result Containment Refusal → ℕ → ℕ
has_reported (Ok t) before = cond t.has 1 0
has_reported (Err r) before = before

abbrev pub compared_reported : Result Containment Refusal → ℕ → ℕ
compared_reported (Ok t) before = t.compared
compared_reported (Err r) before = before

-- What the test's form for C promises where that is the answer: the number returned, and both values at exit.
pub record ContainsExported (a : Result Containment Refusal) (has compared n has' compared' : ℕ) : Type 0 where
  pub refusal : n ≡ number a
  pub has_told : has' ≡ has_reported a has
  pub compared_told : compared' ≡ compared_reported a compared

-- The two reported numbers of the cut by a polygon at exit, from those at entry: how many rectangles were written, and how many cells removed.
-- A refusal leaves both as they were.
abbrev pub written_reported : Result PolygonCut Refusal → ℕ → ℕ
written_reported (Ok c) before = c.rects
written_reported (Err r) before = before

abbrev pub removed_reported : Result PolygonCut Refusal → ℕ → ℕ
removed_reported (Ok c) before = c.removed
removed_reported (Err r) before = before

-- What the cut's form for C promises: the number returned, the result list and both reported numbers at exit.
pub record PolygonCutExported (list p out : List ℕ) (written cells n : ℕ) (out' : List ℕ) (written' cells' : ℕ)
    : Type 0 where
  pub refusal : n ≡ number (polygon_cut_answer list p out)
  pub result : out' ≡ polygon_cut_result list p out
  pub written_told : written' ≡ written_reported (polygon_cut_answer list p out) written
  pub removed_told : cells' ≡ removed_reported (polygon_cut_answer list p out) cells

-- What the form for C promises for a polygon: the number returned, the output and the length at exit ('The length,
-- which is returned'), which a refusal leaves as it was.
pub record WkbExported (p out : List ℕ) (told n : ℕ) (out' : List ℕ) (told' : ℕ) : Type 0 where
  pub refusal : n ≡ number (wkb_answer p out)
  pub output : out' ≡ wkb_output p out
  pub length_told : told' ≡ reported (wkb_answer p out) told
