-- Finding in lists: the first element that passes a test.
-- docs/RULES.md 4.3, 4.4
use Rattle.std.specs.Prelude.{Bool, cond, List, [], ◌∷◌}
use Rattle.std.proofs.Math.Option.{Option, none, some}

-- An element with what stands before and after it.
pub record Focus (A : Type 0) : Type 0 where
  pub before : List A
  pub at : A
  pub after : List A

-- One more element in front of what stands before.
abbrev pub pushed : {A : Type 0} → A → Option (Focus A) → Option (Focus A)
pushed a none = none
pushed a (some f) = some (record { before = a ∷ f.before; at = f.at; after = f.after })

-- The first element that passes the test, in its place.
unfoldable pub first : {A : Type 0} → (A → Bool) → List A → Option (Focus A)
first t [] = none
first t (a ∷ l) = cond (t a) (some (record { before = []; at = a; after = l })) (pushed a (first t l))

-- The first answer, or the second where the first is nothing.
abbrev pub or_else : {A : Type 0} → Option A → Option A → Option A
or_else none m = m
or_else (some a) m = some a
