-- Lists that are put together from parts of equal lengths.
use Prim.Native.Nat.{ℕ, zero, suc, ◌+◌, ◌*◌, ◌<◌}
use mathlib.Core.Path.{◌≡◌, sym, ap, ◌∙◌}
use mathlib.Core.List.{List, [], ◌∷◌, ◌++◌, flat_map}
use native.Mathlib.Omega.{arith}
use lib.ListN.{length, get_or, take, drop, length-append}
use lib.Seq.{take_at, drop_at, drop-drop}

module _ {A B : Type 0} (f : A → List B) (k : ℕ) (each : (a : A) → length (f a) ≡ k) where
  -- how long they are together
  pub flat_length : (l : List A) → length (flat_map f l) ≡ k * length l
  unfolding flat_map
  flat_length [] = omega arith
  flat_length (a ∷ l) = length-append (f a) (flat_map f l) ∙ rw (each a, flat_length l) (omega arith)

  -- from the part of the i-th element on
  pub flat_from : (l : List A) (i : ℕ) (d : A) → i < length l
      → drop (k * i) (flat_map f l) ≡ f (get_or l i d) ++ flat_map f (drop (suc i) l)
  unfolding flat_map
  flat_from [] i d h = absurd (omega arith)
  flat_from (a ∷ l) zero d h = let n : k * 0 ≡ 0 = omega arith in ap (λ (n : ℕ). drop n (f a ++ flat_map f l)) n
  flat_from (a ∷ l) (suc i) d h =
      let n : k * suc i ≡ k + k * i = omega arith in
      ap (λ (n : ℕ). drop n (f a ++ flat_map f l)) n ∙ sym (drop-drop (k * i) k (f a ++ flat_map f l))
      ∙ ap (drop (k * i)) (drop_at (f a) (flat_map f l) k (each a)) ∙ flat_from l i d (omega arith)

  -- the part of the i-th element
  pub flat_at : (l : List A) (i : ℕ) (d : A) → i < length l → take k (drop (k * i) (flat_map f l)) ≡ f (get_or l i d)
  flat_at l i d h =
      ap (take k) (flat_from l i d h)
      ∙ take_at (f (get_or l i d)) (flat_map f (drop (suc i) l)) k (each (get_or l i d))
