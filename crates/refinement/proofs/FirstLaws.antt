-- Which rectangle is the first contained one, and which two are the first joinable ones: laws by their places.
use mathlib.Core.Path.{◌≡◌, refl}
use mathlib.Core.Bool.{Bool, true, false, cond}
use mathlib.Core.List.{List, [], ◌∷◌}
use Prim.Native.Nat.{ℕ, zero, suc, ◌+◌, ◌-◌, ◌≤◌, ◌<◌}
use native.Mathlib.Omega.{arith}
use native.Mathlib.Decide.{dec_lt}
use borrow.Author.Tests.{ltb-true, ltb-false, lt-ltb}
use lib.ListN.{length, take, drop, get_or, length-drop}
use lib.Seq.{get_or-take, get_or-drop, length-take-le}
use Rattle.polygons.specs.Lists.{any}
use Rattle.polygons.proofs.Booleans.{is_false, not_both, or_left, or_right}
use Rattle.geometry.specs.declared.rect.Rect.{Rect}
use Rattle.geometry.specs.Cells.{no_rect}
use Rattle.geometry.specs.Refine.{first_from, within, strictly_within, contained, first_contained, joins, partner, has_partner, first_join}
use Rattle.geometry.proofs.RefineLaws.{first_low, first_passes, pair}

-- no number before the first that passes does
pub first_before : (p : ℕ → Bool) (i m k : ℕ) → i ≤ k → k < first_from p i m → p k ≡ false
unfolding first_from
first_before p i zero k g h = absurd (omega arith)
first_before p i (suc m) k g h = let f = first_before p (i + 1) m k in go (p i) refl h f (dec_lt i k)
  where
    go : (b : Bool) → p i ≡ b → k < cond b i (first_from p (i + 1) m)
        → (i + 1 ≤ k → k < first_from p (i + 1) m → p k ≡ false)
        → Dec (i < k)
        → p k ≡ false
    go true e h f d = absurd (omega arith)
    go false e h f (yes d) = f (omega arith) h
    go false e h f (no d) = let q : k ≡ i = omega arith in rw q e

-- the first place that passes, where it is known
pub first_is : (p : ℕ → Bool) (i m k : ℕ) → i ≤ k → k < i + m → p k ≡ true → ((x : ℕ) → i ≤ x → x < k → p x ≡ false)
    → first_from p i m ≡ k
first_is p i m k g h e f = go (dec_lt (first_from p i m) k) (dec_lt k (first_from p i m))
  where
    go : Dec (first_from p i m < k) → Dec (k < first_from p i m) → first_from p i m ≡ k
    go (yes a) b = absurd (not_both _ (first_passes p i m (omega arith)) (f _ (first_low p i m) a))
    go (no a) (yes b) = absurd (not_both _ e (first_before p i m k g b))
    go (no a) (no b) = omega arith

-- tests that agree have the same first place
pub first_same : (p q : ℕ → Bool) (i m : ℕ) → ((k : ℕ) → i ≤ k → k < i + m → p k ≡ q k)
    → first_from p i m ≡ first_from q i m
unfolding first_from
first_same p q i zero f = refl
first_same p q i (suc m) f =
    let ih = first_same p q (i + 1) m (λ k g h. f k (omega arith) (omega arith)) in
    rw (f i (omega arith) (omega arith), ih)

module _ (p : Rect → Bool) where
  any_at : (l : List Rect) (j : ℕ) → j < length l → p (get_or l j no_rect) ≡ true → any p l ≡ true
  unfolding any
  any_at [] j h e = absurd (omega arith)
  any_at (s ∷ l) zero h e = or_left (p s) (any p l) e
  any_at (s ∷ l) (suc j) h e = or_right (p s) (any p l) (any_at l j (omega arith) e)

  any_none : (l : List Rect) → ((j : ℕ) → j < length l → p (get_or l j no_rect) ≡ false) → any p l ≡ false
  unfolding any
  any_none [] f = refl
  any_none (s ∷ l) f =
      let ih = any_none l (λ j h. f (suc j) (omega arith)) in
      rw (f 0 (omega arith)) ih

not_strictly : (r s : Rect) → within r s ≡ false → strictly_within r s ≡ false
unfolding strictly_within
not_strictly r s e = rw e

-- the k-th is contained in another
module _ (l : List Rect) (k : ℕ) (g : k < length l) where
  pub in_earlier : (j : ℕ) → j < k → within (get_or l k no_rect) (get_or l j no_rect) ≡ true → contained l k ≡ true
  unfolding contained
  in_earlier j h e =
      let a : length (take k l) ≡ k = length-take-le k l (omega arith) in
      or_left _ _ (any_at (within (get_or l k no_rect)) (take k l) j (omega arith) (rw (get_or-take k l j no_rect h) e))

  pub in_later : (j : ℕ) → k < j → j < length l → within (get_or l k no_rect) (get_or l j no_rect) ≡ true
      → within (get_or l j no_rect) (get_or l k no_rect) ≡ false
      → contained l k ≡ true
  unfolding contained strictly_within
  in_later j h i e f =
      let a : length (drop (k + 1) l) ≡ length l - (k + 1) = length-drop (k + 1) l in
      let q : k + 1 + (j - (k + 1)) ≡ j = omega arith in
      or_right (any (within (get_or l k no_rect)) (take k l)) _
      (any_at (strictly_within (get_or l k no_rect)) (drop (k + 1) l) (j - (k + 1)) (omega arith)
      (rw (get_or-drop (k + 1) l (j - (k + 1)) no_rect, q, e, f)))

  -- it is not, where no other contains it
  pub contained_none : ((j : ℕ) → j < length l → (k ≡ j → ⊥) → within (get_or l k no_rect) (get_or l j no_rect) ≡ false)
      → contained l k ≡ false
  unfolding contained
  contained_none f =
      let a : length (take k l) ≡ k = length-take-le k l (omega arith) in
      let b : length (drop (k + 1) l) ≡ length l - (k + 1) = length-drop (k + 1) l in
      rw (any_none (within (get_or l k no_rect)) (take k l) (λ j h.
      rw (get_or-take k l j no_rect (omega arith)) (f j (omega arith) (λ z. omega arith))))
      (any_none (strictly_within (get_or l k no_rect)) (drop (k + 1) l) (λ j h.
      rw (get_or-drop (k + 1) l j no_rect) (not_strictly _ _ (f (k + 1 + j) (omega arith) (λ z. omega arith)))))

module _ (l : List Rect) where
  -- where none is contained in another, no place is one that is
  pub uncontained : length l ≤ first_contained l → (k : ℕ) → k < length l → contained l k ≡ false
  unfolding first_contained
  uncontained h k g = first_before (contained l) 0 (length l) k (omega arith) (omega arith)

  -- one that is joinable with no later one has no partner
  pub unpaired : (k : ℕ) → k < length l → ((j : ℕ) → k < j → j < length l → joins l k j ≡ false)
      → has_partner l k ≡ false
  unfolding has_partner joins
  unpaired k g f = is_false _ (λ t.
      let w = pair l k g (ltb-true _ _ t) in
      not_both _ w.fits (f (partner l k) w.after w.inside))

  -- one that has no partner is joinable with no later one
  pub no_partner : (k j : ℕ) → has_partner l k ≡ false → k < j → j < length l → joins l k j ≡ false
  unfolding has_partner partner
  no_partner k j e g h =
      let a : length l ≤ first_from (joins l k) (k + 1) (length l - (k + 1)) = ltb-false _ _ e in
      first_before (joins l k) (k + 1) (length l - (k + 1)) j (omega arith) (omega arith)

  -- the first two that are joinable, where they are known
  module _ (i j : ℕ) (g : i < j) (h : j < length l) where
    pub partner_is : joins l i j ≡ true → ((y : ℕ) → i < y → y < j → joins l i y ≡ false) → partner l i ≡ j
    unfolding partner
    partner_is e f =
        first_is (joins l i) (i + 1) (length l - (i + 1)) j (omega arith) (omega arith) e (λ y a b. f y (omega arith) b)

    pub first_join_is : partner l i ≡ j → ((x y : ℕ) → x < i → x < y → y < length l → joins l x y ≡ false)
        → first_join l ≡ i
    unfolding first_join has_partner
    first_join_is e f =
        first_is (has_partner l) 0 (length l) i (omega arith) (omega arith) (rw e (lt-ltb j (length l) h))
        (λ x a b. unpaired x (omega arith) (λ y c d. f x y b c d))
