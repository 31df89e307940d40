-- The first element that gives the least number: as a definition, and as a loop finds it.
-- docs/RULES.md 4.19
use Rattle.std.specs.Prelude.{ℕ, zero, suc, max, Bool, cond, List, [], ◌∷◌, ltb, eqb}
use Rattle.std.proofs.Math.Option.{Option, none, some}
use Rattle.polygons.specs.Lists.{least}
use Rattle.tree.specs.Search.{first, Focus}

-- the greatest number that the elements give; 0 of none
unfoldable pub greatest : {A : Type 0} → (A → ℕ) → List A → ℕ
greatest f [] = 0
greatest f (a ∷ []) = f a
greatest f (a ∷ b ∷ l) = max (f a) (greatest f (b ∷ l))

-- n numbers from k on
unfoldable pub up_from : ℕ → ℕ → List ℕ
up_from k zero = []
up_from k (suc n) = k ∷ up_from (suc k) n

-- the element in focus
abbrev pub focused : {A : Type 0} → Option (Focus A) → Option A
focused none = none
focused (some k) = some k.at

-- the first of the elements that give the least number
unfoldable pub best : {A : Type 0} → (A → ℕ) → List A → Option A
best f l = focused (first (λ a. eqb (f a) (least f l)) l)

module _ {A : Type 0} (t : A → Bool) (f : A → ℕ) where
  -- the better of the best so far and the next element: the next only if it is strictly better
  abbrev pub better : Option A → A → Option A
  better none a = some a
  better (some x) a = cond (ltb (f a) (f x)) (some a) (some x)

  -- the best of the elements that pass the test, as a loop finds it, with the best so far
  unfoldable pub scan : Option A → List A → Option A
  scan b [] = b
  scan b (a ∷ l) = scan (cond (t a) (better b a) b) l
