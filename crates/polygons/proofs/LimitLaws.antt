-- Limited lists.
use Prim.Native.Nat.{ℕ, ◌≤◌, ◌<◌}
use mathlib.Core.Path.{◌≡◌, refl}
use mathlib.Core.Bool.{Bool, true, false, cond}
use mathlib.Core.List.{List}
use mathlib.Core.Logic.{◌⊎◌, inl, inr}
use mathlib.Core.Option.{none, some}
use native.Mathlib.Omega.{arith}
use borrow.Author.Tests.{leb-true, le-leb, lt-leb}
use lib.Dec.{leb}
use lib.ListN.{length}
use Rattle.polygons.specs.Limits.{at_most}

module _ {A : Type 0} (n : ℕ) (l : List A) where
  -- a list that passed a limit is the list itself
  pub at_most_is : (m : List A) → at_most n l ≡ some m → m ≡ l
  unfolding at_most
  at_most_is m e = go (leb (length l) n) e
    where
      go : (b : Bool) → cond b (some l) none ≡ some m → m ≡ l
      go true e = cc
      go false e = let z : ◌≡◌ {A = ℕ} 0 1 = cc in absurd (omega arith)

  -- and is within it
  pub at_most_length : (m : List A) → at_most n l ≡ some m → length m ≤ n
  unfolding at_most
  at_most_length m e = go (leb (length l) n) refl e
    where
      go : (b : Bool) → leb (length l) n ≡ b → cond b (some l) none ≡ some m → length m ≤ n
      go true f e = let q : m ≡ l = cc in rw q (leb-true (length l) n f)
      go false f e = let z : ◌≡◌ {A = ℕ} 0 1 = cc in absurd (omega arith)

  -- a list passes a limit as it is, or is refused
  pub at_most_or : (at_most n l ≡ some l) ⊎ (at_most n l ≡ none)
  unfolding at_most
  at_most_or = go (leb (length l) n)
    where
      go : (b : Bool) → (cond b (some l) none ≡ some l) ⊎ (cond b (some l) none ≡ none)
      go true = inl refl
      go false = inr refl

  -- a list within a limit passes it
  pub at_most_some : length l ≤ n → at_most n l ≡ some l
  unfolding at_most
  at_most_some h = rw (le-leb (length l) n h)

  -- a list over a limit is refused
  pub at_most_none : n < length l → at_most n l ≡ none
  unfolding at_most
  at_most_none h = rw (lt-leb (length l) n h)
