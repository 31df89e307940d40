-- The place of the first element of a list that passes a test, and how many elements are compared until one passes.
use mathlib.Core.Path.{◌≡◌, refl}
use mathlib.Core.Bool.{Bool, true, false, ◌||◌, cond, true≢false, false≢true}
use mathlib.Core.List.{List, [], ◌∷◌}
use Prim.Native.Nat.{ℕ, zero, suc, ◌+◌, ◌≤◌, ◌<◌}
use native.Mathlib.Omega.{arith}
use lib.ListN.{length, get_or}
use Rattle.polygons.specs.Lists.{any, first_place, compared_by}

module _ {A : Type 0} (t : A → Bool) where
  -- the place is in the list or at its end
  pub place_le : (l : List A) → first_place t l ≤ length l
  unfolding first_place
  place_le [] = omega arith
  place_le (a ∷ l) = go (t a) (place_le l)
    where
      go : (b : Bool) → first_place t l ≤ length l → cond b zero (suc (first_place t l)) ≤ suc (length l)
      go true h = omega arith
      go false h = omega arith

  -- the element at the place passes
  pub place_passes : (l : List A) (d : A) → first_place t l < length l → t (get_or l (first_place t l) d) ≡ true
  unfolding first_place
  place_passes [] d h = absurd (omega arith)
  place_passes (a ∷ l) d h = go (t a) refl (place_passes l d) h
    where
      go : (b : Bool) → t a ≡ b → (first_place t l < length l → t (get_or l (first_place t l) d) ≡ true)
          → cond b zero (suc (first_place t l)) < suc (length l)
          → t (get_or (a ∷ l) (cond b zero (suc (first_place t l))) d) ≡ true
      go true e f h = e
      go false e f h = f (omega arith)

  -- no element before the place passes
  pub place_before_lem : (l : List A) (d : A) (k : ℕ) → k < first_place t l → t (get_or l k d) ≡ false
  unfolding first_place
  place_before_lem [] d k h = absurd (omega arith)
  place_before_lem (a ∷ l) d k h = go (t a) refl k h (place_before_lem l d)
    where
      go : (b : Bool) → t a ≡ b → (k : ℕ) → k < cond b zero (suc (first_place t l))
          → ((j : ℕ) → j < first_place t l → t (get_or l j d) ≡ false) → t (get_or (a ∷ l) k d) ≡ false
      go true e k h f = absurd (omega arith)
      go false e zero h f = e
      go false e (suc k) h f = f k (omega arith)

  -- where some element passes, the place is in the list, and the elements up to and with it are compared
  pub place_some : (l : List A) → any t l ≡ true → first_place t l < length l
  unfolding first_place any
  place_some [] h = absurd (false≢true h)
  place_some (a ∷ l) h = go (t a) (place_some l) h
    where
      go : (b : Bool) → (any t l ≡ true → first_place t l < length l) → b || any t l ≡ true
          → cond b zero (suc (first_place t l)) < suc (length l)
      go true f h = omega arith
      go false f h = let k = f h in omega arith

  pub compared_some : (l : List A) → any t l ≡ true → compared_by t l ≡ first_place t l + 1
  unfolding first_place compared_by any
  compared_some [] h = absurd (false≢true h)
  compared_some (a ∷ l) h = go (t a) (compared_some l) h
    where
      go : (b : Bool) → (any t l ≡ true → compared_by t l ≡ first_place t l + 1) → b || any t l ≡ true
          → cond b 1 (suc (compared_by t l)) ≡ cond b zero (suc (first_place t l)) + 1
      go true f h = refl
      go false f h = let k = f h in omega arith

  -- where none passes, all are compared
  pub compared_none : (l : List A) → any t l ≡ false → compared_by t l ≡ length l
  unfolding compared_by any
  compared_none [] h = refl
  compared_none (a ∷ l) h = go (t a) (compared_none l) h
    where
      go : (b : Bool) → (any t l ≡ false → compared_by t l ≡ length l) → b || any t l ≡ false
          → cond b 1 (suc (compared_by t l)) ≡ suc (length l)
      go true f h = absurd (true≢false h)
      go false f h = let k = f h in omega arith

  -- no more are compared than there are
  pub compared_most : (l : List A) → compared_by t l ≤ length l
  unfolding compared_by
  compared_most [] = omega arith
  compared_most (a ∷ l) = go (t a) (compared_most l)
    where
      go : (b : Bool) → compared_by t l ≤ length l → cond b 1 (suc (compared_by t l)) ≤ suc (length l)
      go true h = omega arith
      go false h = omega arith
