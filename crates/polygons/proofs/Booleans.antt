-- Small facts on tests, which the other files cite.
use mathlib.Core.Path.{◌≡◌, refl, sym, ◌∙◌}
use mathlib.Core.Bool.{Bool, true, false, not, ◌&&◌, ◌||◌, false≢true, true≢false, or-true}
use mathlib.Core.Logic.{◌⊎◌, inl, inr}

-- a test that implies ⊥ is false
pub is_false : (b : Bool) → (b ≡ true → ⊥) → b ≡ false
is_false true h = absurd (h refl)
is_false false h = refl

-- a test is not both true and false
pub not_both : (b : Bool) → b ≡ true → b ≡ false → ⊥
not_both b t f = true≢false (sym t ∙ f)

-- two tests that imply each other are equal
pub same : (a b : Bool) → (a ≡ true → b ≡ true) → (b ≡ true → a ≡ true) → a ≡ b
same true b f g = sym (f refl)
same false true f g = g refl
same false false f g = refl

-- where one of two tests passes, it is the first or the second
pub either : (a b : Bool) → a || b ≡ true → (a ≡ true) ⊎ (b ≡ true)
either true b e = inl refl
either false b e = inr e

-- one of two tests passes where the first does
pub or_left : (a b : Bool) → a ≡ true → a || b ≡ true
or_left a b e = rw e

-- one of two tests passes where the second does
pub or_right : (a b : Bool) → b ≡ true → a || b ≡ true
or_right a b e = rw (e, or-true)

-- where it does not hold that one of two tests passes, both fail
pub neither : (a b : Bool) → a || b ≡ false → (a ≡ false) × (b ≡ false)
neither true b e = absurd (true≢false e)
neither false b e = (refl, e)

-- a test passes and neither of two others does
pub neither_of : (a b c : Bool) → a && not b && not c ≡ a && not (b || c)
neither_of true true c = refl
neither_of true false c = refl
neither_of false b c = refl

-- two tests that pass, pass together
pub both : (a b : Bool) → a ≡ true → b ≡ true → a && b ≡ true
both a b e f = rw (e, f)

-- two tests that pass together, each pass
pub split_and : (a b : Bool) → a && b ≡ true → (a ≡ true) × (b ≡ true)
split_and true true e = (refl, refl)
split_and true false e = absurd (false≢true e)
split_and false b e = absurd (false≢true e)

-- four tests that pass together, each pass
pub all4 : (a b c d : Bool) → a && b && c && d ≡ true → (a ≡ true) × (b ≡ true) × (c ≡ true) × (d ≡ true)
all4 false b c d e = absurd (false≢true e)
all4 true false c d e = absurd (false≢true e)
all4 true true false d e = absurd (false≢true e)
all4 true true true false e = absurd (false≢true e)
all4 true true true true e = (refl, refl, refl, refl)
