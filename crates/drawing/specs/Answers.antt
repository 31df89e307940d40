-- What the calls of the drawing exercise answer, and what they leave in the result list.
-- docs/RULES.md 2.21, 2.23, 2.24, 5.11
use Rattle.std.specs.Prelude.{ℕ, ◌*◌, ◌≤◌, Bool, true, false, List, ◌++◌, ◌≡◌, length, drop, Result, Ok, Err}
use Rattle.std.proofs.Math.Option.{Option, none, some}
use Rattle.geometry.specs.declared.rect.Rect.{Rect}
use Rattle.geometry.specs.declared.containment.Containment.{Containment}
use Rattle.geometry.specs.Numbers.{numbers_of, rects_in}
use Rattle.geometry.specs.Refine.{refine}
use Rattle.drawing.specs.declared.answer.Refusal.{Refusal}
use Rattle.drawing.specs.declared.answer.Refusal.TheVariants.{Invalid, TooMany}

-- The answer of a call, from whether all its arguments are valid and the limited list that its rule gives: how many
-- rectangles were written. The test for 3 comes before that for 7.
unfoldable pub answer_of : Bool → Option (List Rect) → Result ℕ Refusal
answer_of false l = Err Invalid
answer_of true none = Err TooMany
answer_of true (some l) = Ok (length l)

-- The result list at exit: 'the result list stays as it was; places past the result stay too.'
unfoldable pub result_of : Bool → Option (List Rect) → List ℕ → List ℕ
result_of false l out = out
result_of true none out = out
result_of true (some l) out = numbers_of l ++ drop (4 * length l) out

-- a written count is at most 256
abbrev pub few : Result ℕ Refusal → Type 0
few (Ok n) = n ≤ 256
few (Err r) = Unit {0}

-- What a call promises: its answer and the whole result list at exit.
pub record Drawn (valid : Bool) (limited : Option (List Rect)) (out : List ℕ) (a : Result ℕ Refusal)
    (out' : List ℕ) : Type 0 where
  pub answer : a ≡ answer_of valid limited
  pub result : out' ≡ result_of valid limited out
  pub count : few a

-- The first n rectangles of a list were refined, and the result is the first m of the numbers out'; those behind
-- stayed.
pub record RefinedInto (list : List ℕ) (n : ℕ) (out : List ℕ) (m : ℕ) (out' : List ℕ) : Type 0 where
  pub result : out' ≡ numbers_of (refine (rects_in list n)) ++ drop (4 * m) out
  pub count : m ≡ length (refine (rects_in list n))
  pub fewer : m ≤ n

-- The answer of the containment test, from whether its arguments are valid and what the test reports.
unfoldable pub contains_of : Bool → Containment → Result Containment Refusal
contains_of false t = Err Invalid
contains_of true t = Ok t

-- The answer of the extra area.
unfoldable pub extra_of : Bool → ℕ → Result ℕ Refusal
extra_of false n = Err Invalid
extra_of true n = Ok n
