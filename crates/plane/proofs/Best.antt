-- The first of the least: there is one in a list that is not empty, and the loop finds it.
use Prim.Native.Nat.{ℕ, ◌≤◌, ◌<◌, min}
use mathlib.Core.Bool.{Bool, true, false, cond}
use mathlib.Core.Path.{◌≡◌, refl, sym, ◌∙◌, subst}
use mathlib.Core.List.{List, [], ◌∷◌}
use mathlib.Core.Option.{Option, none, some}
use lib.ListN.{length}
use lib.Dec.{leb, ltb, eqb}
use native.Mathlib.Omega.{arith}
use native.Mathlib.Decide.{dec_le}
use borrow.Author.Tests.{le-leb, lt-leb, leb-true, leb-false, ltb-true, ltb-false, eq-eqb, ne_eqb}
use Rattle.polygons.specs.Lists.{least}
use Rattle.tree.specs.Lists.{keep, All}
use Rattle.tree.specs.Search.{first, Focus, pushed}
use Rattle.tree.proofs.Lists.{all_map, all_any}
use Rattle.plane.specs.Best.{focused, best, scan}

module _ {A : Type 0} (f : A → ℕ) where
  -- the least is at most what each element gives
  pub least_low : (l : List A) → All (λ x. least f l ≤ f x) l
  unfolding least All
  least_low [] = tt
  least_low (a ∷ []) = (omega arith, tt)
  least_low (a ∷ b ∷ l) = (omega arith, all_map (λ x. least f (b ∷ l) ≤ f x) (λ x. min (f a) (least f (b ∷ l)) ≤ f x) (b ∷ l) (λ x h. omega arith) (least_low (b ∷ l)))

  -- and at least what is at most each of them
  pub least_high : (k : ℕ) (l : List A) → 1 ≤ length l → All (λ x. k ≤ f x) l → k ≤ least f l
  unfolding least All
  least_high k [] n h = absurd (omega arith)
  least_high k (a ∷ []) n h = h.0
  least_high k (a ∷ b ∷ l) n h = let i = least_high k (b ∷ l) (omega arith) h.1 in let j = h.0 in omega arith

  -- the earlier of two, unless the later is strictly better
  abbrev pub combine : A → Option A → Option A
  combine x none = some x
  combine x (some y) = cond (leb (f x) (f y)) (some x) (some y)

  -- the best, from the right
  unfoldable pub fold : List A → Option A
  fold [] = none
  fold (a ∷ l) = combine a (fold l)

  -- what is found gives the least, and has what all elements have
  pub record Best (P : A → Type 0) (l : List A) (o : Option A) : Type 0 where
    pub it : A
    pub found : o ≡ some it
    pub least_one : f it ≡ least f l
    pub has : P it

  pub fold_some : (P : A → Type 0) (l : List A) → 1 ≤ length l → All P l → Best P l (fold l)
  unfolding fold least All
  fold_some P [] n h = absurd (omega arith)
  fold_some P (a ∷ []) n h = record { it = a; found = refl; least_one = refl; has = h.0 }
  fold_some P (a ∷ b ∷ l) n h = go (fold_some P (b ∷ l) (omega arith) h.1)
    where
      go : Best P (b ∷ l) (fold (b ∷ l)) → Best P (a ∷ b ∷ l) (combine a (fold (b ∷ l)))
      go m = side (leb (f a) (f m.it)) refl
        where
          side : (t : Bool) → leb (f a) (f m.it) ≡ t → Best P (a ∷ b ∷ l) (combine a (fold (b ∷ l)))
          side true e = let k = leb-true (f a) (f m.it) e in let q = m.least_one in record { it = a; found = rw (m.found, e); least_one = omega arith; has = h.0 }
          side false e = let k = leb-false (f a) (f m.it) e in let q = m.least_one in record { it = m.it; found = rw (m.found, e); least_one = omega arith; has = m.has }

  focused_pushed : (a : A) (m : Option (Focus A)) → focused (pushed a m) ≡ focused m
  focused_pushed a none = refl
  focused_pushed a (some k) = refl

  first_fold : (l : List A) → focused (first (λ a. eqb (f a) (least f l)) l) ≡ fold l
  unfolding first fold least
  first_fold [] = refl
  first_fold (a ∷ []) = rw (eq-eqb (f a) (f a) refl)
  first_fold (a ∷ b ∷ l) = go (first_fold (b ∷ l)) (fold_some (λ x. Unit {0}) (b ∷ l) (omega arith) (all_any (λ x. Unit {0}) (b ∷ l) (λ x. tt))) (dec_le (f a) (least f (b ∷ l)))
    where
      go : focused (first (λ x. eqb (f x) (least f (b ∷ l))) (b ∷ l)) ≡ fold (b ∷ l) → Best (λ x. Unit {0}) (b ∷ l) (fold (b ∷ l)) → Dec (f a ≤ least f (b ∷ l))
          → focused (cond (eqb (f a) (min (f a) (least f (b ∷ l)))) (some (record { before = []; at = a; after = b ∷ l })) (pushed a (first (λ x. eqb (f x) (min (f a) (least f (b ∷ l)))) (b ∷ l)))) ≡ combine a (fold (b ∷ l))
      go ih h (yes d) =
          let q = h.least_one in let e : f a ≡ min (f a) (least f (b ∷ l)) = omega arith in let g : f a ≤ f h.it = omega arith in
          rw (eq-eqb (f a) (min (f a) (least f (b ∷ l))) e, h.found, le-leb (f a) (f h.it) g)
      go ih h (no d) =
          let q = h.least_one in let e : min (f a) (least f (b ∷ l)) ≡ least f (b ∷ l) = omega arith in let g : f h.it < f a = omega arith in
          subst
          (λ (m : ℕ). focused (cond (eqb (f a) m) (some (record { before = []; at = a; after = b ∷ l })) (pushed a (first (λ x. eqb (f x) m) (b ∷ l)))) ≡ combine a (fold (b ∷ l)))
          (sym e)
          (rw (ne_eqb (f a) (least f (b ∷ l)) (λ z. omega arith)) (focused_pushed a (first (λ x. eqb (f x) (least f (b ∷ l))) (b ∷ l)) ∙ ih ∙ rw (h.found, lt-leb (f a) (f h.it) g)))

  -- the first of the least is the best from the right
  pub best_fold : (l : List A) → best f l ≡ fold l
  unfolding best
  best_fold l = first_fold l

  -- a list that is not empty has a best element
  pub best_some : (P : A → Type 0) (l : List A) → 1 ≤ length l → All P l → Best P l (best f l)
  best_some P l n h = rw best_fold (fold_some P l n h)

  join_tests : (x a : A) (m : Option A) (b : Bool) → ltb (f a) (f x) ≡ b → combine x (combine a m) ≡ cond b (combine a m) (combine x m)
  join_tests x a none true e = let k = ltb-true (f a) (f x) e in rw (lt-leb (f x) (f a) k)
  join_tests x a none false e = let k = ltb-false (f a) (f x) e in rw (le-leb (f x) (f a) k)
  join_tests x a (some y) b e = go (leb (f a) (f y)) refl b e
    where
      go : (c : Bool) → leb (f a) (f y) ≡ c → (b : Bool) → ltb (f a) (f x) ≡ b → combine x (cond c (some a) (some y)) ≡ cond b (cond c (some a) (some y)) (combine x (some y))
      go true g true e = let k = ltb-true (f a) (f x) e in rw (lt-leb (f x) (f a) k)
      go true g false e = let k = ltb-false (f a) (f x) e in let j = leb-true (f a) (f y) g in let i : f x ≤ f y = omega arith in rw (le-leb (f x) (f a) k, le-leb (f x) (f y) i)
      go false g true e = let k = ltb-true (f a) (f x) e in let j = leb-false (f a) (f y) g in let i : f y < f x = omega arith in rw (lt-leb (f x) (f y) i)
      go false g false e = refl

  module _ (t : A → Bool) where
    scan_from : (x : A) (l : List A) → scan t f (some x) l ≡ combine x (fold (keep t l))
    unfolding scan fold keep
    scan_from x [] = refl
    scan_from x (a ∷ l) = go (t a) (ltb (f a) (f x)) refl (λ y. scan_from y l)
      where
        go : (b c : Bool) → ltb (f a) (f x) ≡ c → ((y : A) → scan t f (some y) l ≡ combine y (fold (keep t l)))
            → scan t f (cond b (cond c (some a) (some x)) (some x)) l ≡ combine x (fold (cond b (a ∷ keep t l) (keep t l)))
        go true true e ih = ih a ∙ sym (join_tests x a (fold (keep t l)) true e)
        go true false e ih = ih x ∙ sym (join_tests x a (fold (keep t l)) false e)
        go false c e ih = ih x

    scan_fold : (l : List A) → scan t f none l ≡ fold (keep t l)
    unfolding scan fold keep
    scan_fold [] = refl
    scan_fold (a ∷ l) = go (t a) (scan_fold l)
      where
        go : (b : Bool) → scan t f none l ≡ fold (keep t l) → scan t f (cond b (some a) none) l ≡ fold (cond b (a ∷ keep t l) (keep t l))
        go true ih = scan_from a l
        go false ih = ih

    -- the loop finds the first of the least of those that pass
    pub scan_best : (l : List A) → scan t f none l ≡ best f (keep t l)
    scan_best l = scan_fold l ∙ sym (best_fold (keep t l))
