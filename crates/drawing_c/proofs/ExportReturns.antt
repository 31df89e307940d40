-- The forms for C: document 01's number and the reported count, from the answer.
use mathlib.Core.Path.{◌≡◌, ◌∙◌, ap}
use mathlib.Core.Bool.{Bool}
use mathlib.Core.List.{List}
use mathlib.Core.Option.{Option}
use Prim.Native.Nat.{ℕ, ◌≤◌}
use Rattle.geometry.specs.declared.rect.Rect.{Rect}
use Rattle.std.specs.Prelude.{Result, Ok, Err}
use Rattle.drawing.specs.declared.answer.Refusal.{Refusal}
use Rattle.drawing.specs.Answers.{few, Drawn}
use Rattle.drawing_c.specs.Exports.{refusal_number, number, reported, Exported}

pub few_wrote : (a : Result ℕ Refusal) (n : ℕ) → few a → a ≡ Ok n → n ≤ 256
few_wrote a n f e = rw e at f

pub exported : (v : Bool) (l : Option (List Rect)) (out : List ℕ) (told : ℕ) (a : Result ℕ Refusal) (n : ℕ)
    (out' : List ℕ) (told' : ℕ)
    → Drawn v l out a out' → n ≡ number a → told' ≡ reported a told → Exported v l out told n out' told'
exported v l out told a n out' told' d e f = record {
  refusal = e ∙ ap number d.answer;
  result = d.result;
  count = f ∙ ap (λ (x : Result ℕ Refusal). reported x told) d.answer;
}

module _ (x y : Result ℕ Refusal) (e : x ≡ y) where
  module _ (n : ℕ) (f : x ≡ Ok n) where
    pub area_number : 0 ≡ number y
    area_number = rw (← e, f)

    pub area_reported : (told : ℕ) → n ≡ reported y told
    area_reported told = rw (← e, f)

  module _ (r : Refusal) (f : x ≡ Err r) where
    pub unfit_number : (n : ℕ) → n ≡ refusal_number r → n ≡ number y
    unfit_number n g = rw (← e, f) g

    pub unfit_reported : (told : ℕ) → told ≡ reported y told
    unfit_reported told = rw (← e, f)
