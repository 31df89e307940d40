-- Lists of any elements: whether one passes a test, which is the first, the least number that they give.
-- docs/RULES.md 2.6, 2.26, 4.4
use Rattle.std.specs.Prelude.{ℕ, zero, suc, min, Bool, false, ◌||◌, cond, List, [], ◌∷◌}

-- Whether some element passes the test.
unfoldable pub any : {A : Type 0} → (A → Bool) → List A → Bool
any t [] = false
any t (a ∷ l) = t a || any t l

-- The place of the first element that passes the test; the length where none does.
unfoldable pub first_place : {A : Type 0} → (A → Bool) → List A → ℕ
first_place t [] = zero
first_place t (a ∷ l) = let later = first_place t l in cond (t a) zero (suc later)

-- How many elements are compared, in order, until one passes the test. A.3: 'up to and with the first that has the
-- cell, or all if none has it'.
unfoldable pub compared_by : {A : Type 0} → (A → Bool) → List A → ℕ
compared_by t [] = zero
compared_by t (a ∷ l) = let later = compared_by t l in cond (t a) 1 (suc later)

-- The least number that the elements give; 0 for the empty list.
unfoldable pub least : {A : Type 0} → (A → ℕ) → List A → ℕ
least f [] = 0
least f (a ∷ []) = f a
least f (a ∷ b ∷ l) = min (f a) (least f (b ∷ l))
