-- Loops that test each element of a list, or each two: one invariant each, with its miss, pass and end.
use mathlib.Core.Path.{◌≡◌, refl, ◌∙◌}
use mathlib.Core.Bool.{Bool, true, false, ◌&&◌}
use mathlib.Core.List.{List, [], ◌∷◌}
use Prim.Native.Nat.{ℕ, ◌+◌}
use lib.ListN.{drop}
use Rattle.std.specs.List.{list_all}
use Rattle.cover.specs.Tests.{all_pass, pairs_pass}

-- std's word for `all_pass`
pub list_all-pass : {A : Type 0} (f : A → Bool) (l : List A) → list_all f l ≡ all_pass f l
unfolding all_pass
list_all-pass f [] = refl
list_all-pass f (a ∷ l) = rw (list_all-pass f l)

-- Whether all elements pass is w, and it is settled by those from the i-th on.
pub record Passing {A : Type 0} (f : A → Bool) (l : List A) (i : ℕ) (w : Bool) : Type 0 where
  pub rest : w ≡ all_pass f (drop i l)

module _ {A : Type 0} (f : A → Bool) (l : List A) where
  pub passing_start : Passing f l 0 (all_pass f l)
  passing_start = record { rest = refl }

  module _ (i : ℕ) (w : Bool) (v : Passing f l i w) where
    pub passing_end : drop i l ≡ [] → true ≡ w
    unfolding all_pass
    passing_end e = rw (v.rest, e)

    module _ (a : A) (e : drop i l ≡ a ∷ drop (i + 1) l) where
      passing_next : w ≡ f a && all_pass f (drop (i + 1) l)
      unfolding all_pass
      passing_next = v.rest ∙ rw e

      pub passing_stop : f a ≡ false → false ≡ w
      passing_stop g = rw (passing_next, g)

      pub passing_on : f a ≡ true → Passing f l (i + 1) w
      passing_on g = record { rest = passing_next ∙ rw g }

-- Whether every two elements pass is w, and it is settled by those from the i-th on.
pub record Pairing {A : Type 0} (f : A → A → Bool) (l : List A) (i : ℕ) (w : Bool) : Type 0 where
  pub rest : w ≡ pairs_pass f (drop i l)

module _ {A : Type 0} (f : A → A → Bool) (l : List A) where
  pub pairing_start : Pairing f l 0 (pairs_pass f l)
  pairing_start = record { rest = refl }

  module _ (i : ℕ) (w : Bool) (v : Pairing f l i w) where
    pub pairing_end : drop i l ≡ [] → true ≡ w
    unfolding pairs_pass
    pairing_end e = rw (v.rest, e)

    module _ (a : A) (e : drop i l ≡ a ∷ drop (i + 1) l) where
      pairing_next : w ≡ all_pass (f a) (drop (i + 1) l) && pairs_pass f (drop (i + 1) l)
      unfolding pairs_pass
      pairing_next = v.rest ∙ rw e

      pub pairing_stop : all_pass (f a) (drop (i + 1) l) ≡ false → false ≡ w
      pairing_stop g = rw (pairing_next, g)

      pub pairing_on : all_pass (f a) (drop (i + 1) l) ≡ true → Pairing f l (i + 1) w
      pairing_on g = record { rest = pairing_next ∙ rw g }
