-- Small functions on lists, used throughout.
use Rattle.std.specs.Prelude.{ℕ, zero, suc, ◌+◌, Bool, true, false, cond, List, [], ◌∷◌, ◌≡◌, length}
use Rattle.std.proofs.Math.Option.{Option, none, some}

-- The elements that pass the test, in their order.
unfoldable pub keep : {A : Type 0} → (A → Bool) → List A → List A
keep p [] = []
keep p (a ∷ l) = cond (p a) (a ∷ keep p l) (keep p l)

-- How many elements pass the test.
abbrev pub count_of : {A : Type 0} → (A → Bool) → List A → ℕ
count_of p l = length (keep p l)

-- The same elements, each as often, in any order: every test is passed by as many of both.
abbrev pub Bag : {A : Type 0} → List A → List A → Type 0
Bag {A} l m = (q : A → Bool) → count_of q l ≡ count_of q m

-- The sum of the numbers that the elements give.
unfoldable pub total : {A : Type 0} → (A → ℕ) → List A → ℕ
total f [] = 0
total f (a ∷ l) = f a + total f l

-- The statement holds of every element.
unfoldable pub All : {A : Type 0} → (A → Type 0) → List A → Type 0
All P [] = Unit {0}
All P (a ∷ l) = P a × All P l

-- The relation holds between every two elements at different places, the earlier first.
unfoldable pub Pairs : {A : Type 0} → (A → A → Type 0) → List A → Type 0
Pairs R [] = Unit {0}
Pairs R (a ∷ l) = All (R a) l × Pairs R l

-- Whether there is an element.
abbrev pub not_empty : {A : Type 0} → List A → Bool
not_empty [] = false
not_empty (a ∷ l) = true

-- The element at a place, counted from 0; nothing past the end.
unfoldable pub nth : {A : Type 0} → List A → ℕ → Option A
nth [] i = none
nth (a ∷ l) zero = some a
nth (a ∷ l) (suc i) = nth l i
