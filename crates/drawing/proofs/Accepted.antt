-- What a test of an argument says: a refusal that `?` hands on, and an argument that was accepted.
use mathlib.Core.Path.{◌≡◌, refl, sym, ◌∙◌, ap}
use mathlib.Core.Bool.{Bool, true, false}
use Rattle.std.specs.Prelude.{Result, Ok, Err, ⊤}
use Rattle.std.specs.Result.{IsErrAnd}
use Rattle.std.proofs.lemmas.Result.{err_from_is_err_and}
use Rattle.drawing.specs.declared.answer.Refusal.{Refusal}
use Rattle.drawing.specs.declared.answer.Refusal.TheVariants.{Invalid}
use Rattle.drawing.specs.Arguments.{accepted}

module _ (b : Bool) (a : Result ⊤ Refusal) (e : a ≡ accepted b) where
  pub is_true : a ≡ Ok tt → b ≡ true
  unfolding accepted
  is_true f = go b (sym f ∙ e)
    where
      go : (b : Bool) → Ok tt ≡ accepted b → b ≡ true
      go true q = refl
      go false q = absurd cc

  is_invalid : (x : Refusal) → a ≡ Err x → (b ≡ false) × (x ≡ Invalid)
  unfolding accepted
  is_invalid x f = go b (sym f ∙ e)
    where
      go : (b : Bool) → Err x ≡ accepted b → (b ≡ false) × (x ≡ Invalid)
      go true q = absurd cc
      go false q = (refl, cc)

  -- the refusal is handed on
  pub handed_on : {A : Type 0} (r : Result A Refusal) (x : Refusal) → a ≡ Err x → IsErrAnd r (λ y. y ≡ x)
      → (b ≡ false) × (r ≡ Err Invalid)
  handed_on r x f v =
      let p = err_from_is_err_and r v in
      let q = is_invalid x f in
      (q.0, p.1 ∙ ap Err (p.2 ∙ q.1))
