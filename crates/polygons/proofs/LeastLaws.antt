-- The least number that the elements of a list give.
use Prim.Native.Nat.{ℕ, ◌≤◌, min}
use mathlib.Core.Path.{◌≡◌, refl}
use mathlib.Core.List.{List, [], ◌∷◌, ◌++◌}
use native.Mathlib.Omega.{arith}
use Rattle.polygons.specs.Lists.{least}

module _ {A : Type 0} (f : A → ℕ) where
  -- it is at most what the first element gives,
  pub least_first : (a : A) (l : List A) → least f (a ∷ l) ≤ f a
  unfolding least
  least_first a [] = omega arith
  least_first a (b ∷ l) = omega arith

  -- and at most the least of the rest
  pub least_rest : (a b : A) (l : List A) → least f (a ∷ b ∷ l) ≤ least f (b ∷ l)
  unfolding least
  least_rest a b l = omega arith

  -- the least of two lists together
  pub least_append : (b : A) (m : List A) (a : A) (l : List A) → least f ((a ∷ l) ++ (b ∷ m)) ≡ min (least f (a ∷ l)) (least f (b ∷ m))
  unfolding least
  least_append b m a [] = refl
  least_append b m a (c ∷ l) = let i = least_append b m c l in omega arith
