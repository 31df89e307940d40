-- The lexicographic order: irreflexive, transitive, and total.
use Prim.Native.Nat.{ℕ, ◌<◌, ◌≤◌}
use mathlib.Core.Bool.{Bool, true, false, ◌&&◌, ◌||◌}
use mathlib.Core.Path.{◌≡◌, refl, sym, ap, ◌∙◌}
use mathlib.Core.List.{List, [], ◌∷◌}
use lib.Dec.{ltb, eqb}
use native.Mathlib.Omega.{arith}
use borrow.Author.Tests.{ltb-true, ltb-false, eqb-true, lt-ltb, le-ltb, eq-eqb}
use Rattle.polygons.proofs.Booleans.{is_false, not_both}
use Rattle.tree.specs.Order.{comes_before}

-- How two lists with a first number compare.
pub data Compared (a b : ℕ) (l m : List ℕ) : Type 0 where
  less : a < b → Compared a b l m
  equal : a ≡ b → comes_before l m ≡ true → Compared a b l m

pub compared : (a b : ℕ) (l m : List ℕ) → comes_before (a ∷ l) (b ∷ m) ≡ true → Compared a b l m
unfolding comes_before
compared a b l m h = go (ltb a b) (eqb a b) refl refl h
  where
    go : (s t : Bool) → ltb a b ≡ s → eqb a b ≡ t → s || (t && comes_before l m) ≡ true → Compared a b l m
    go true t e f h = less (ltb-true a b e)
    go false true e f h = equal (eqb-true a b f) h
    go false false e f h = absurd (not_both false h refl)

pub by_first : (a b : ℕ) (l m : List ℕ) → a < b → comes_before (a ∷ l) (b ∷ m) ≡ true
unfolding comes_before
by_first a b l m h = rw (lt-ltb a b h)

pub by_rest : (a b : ℕ) (l m : List ℕ) → a ≡ b → comes_before l m ≡ true → comes_before (a ∷ l) (b ∷ m) ≡ true
unfolding comes_before
by_rest a b l m e h = rw (le-ltb a b (omega arith), eq-eqb a b e) h

-- the first numbers decide first
pub head_le : (a b : ℕ) (l m : List ℕ) → comes_before (a ∷ l) (b ∷ m) ≡ true → a ≤ b
head_le a b l m h = go (compared a b l m h)
  where
    go : Compared a b l m → a ≤ b
    go (less k) = omega arith
    go (equal e k) = omega arith

pub irreflexive : (l : List ℕ) → comes_before l l ≡ false
irreflexive [] = unfold comes_before in refl
irreflexive (a ∷ l) = is_false (comes_before (a ∷ l) (a ∷ l)) (λ h. go (irreflexive l) (compared a a l l h))
  where
    go : comes_before l l ≡ false → Compared a a l l → ⊥
    go i (less k) = omega arith
    go i (equal e k) = not_both (comes_before l l) k i

pub transitive : (l m n : List ℕ) → comes_before l m ≡ true → comes_before m n ≡ true → comes_before l n ≡ true
transitive [] [] n h k = unfold comes_before in k
transitive [] (b ∷ m) [] h k = absurd (not_both false (unfold comes_before in k) refl)
transitive [] (b ∷ m) (d ∷ n) h k = unfold comes_before in refl
transitive (a ∷ l) [] n h k = absurd (not_both false (unfold comes_before in h) refl)
transitive (a ∷ l) (b ∷ m) [] h k = absurd (not_both false (unfold comes_before in k) refl)
transitive (a ∷ l) (b ∷ m) (d ∷ n) h k = go (transitive l m n) (compared a b l m h) (compared b d m n k)
  where
    go : (comes_before l m ≡ true → comes_before m n ≡ true → comes_before l n ≡ true) → Compared a b l m → Compared b d m n → comes_before (a ∷ l) (d ∷ n) ≡ true
    go t (less x) (less y) = by_first a d l n (omega arith)
    go t (less x) (equal y j) = by_first a d l n (omega arith)
    go t (equal x i) (less y) = by_first a d l n (omega arith)
    go t (equal x i) (equal y j) = by_rest a d l n (omega arith) (t i j)

-- Two lists of which none comes before the other are one: so the nearest entry's rank is fixed.
pub total_order : (l m : List ℕ) → comes_before l m ≡ false → comes_before m l ≡ false → l ≡ m
total_order [] [] h k = refl
total_order [] (b ∷ m) h k = absurd (not_both true refl (unfold comes_before in h))
total_order (a ∷ l) [] h k = absurd (not_both true refl (unfold comes_before in k))
total_order (a ∷ l) (b ∷ m) h k =
    let x : b ≤ a = go b a m l h in
    let y : a ≤ b = go a b l m k in
    let e : a ≡ b = omega arith in
    let r = total_order l m (rest a b l m e h) (rest b a m l (sym e) k) in
    ap (λ (n : ℕ). n ∷ l) e ∙ ap (λ (n : List ℕ). b ∷ n) r
  where
    go : (a b : ℕ) (l m : List ℕ) → comes_before (b ∷ m) (a ∷ l) ≡ false → a ≤ b
    go a b l m h = at (ltb b a) refl
      where
        at : (t : Bool) → ltb b a ≡ t → a ≤ b
        at true i = absurd (not_both (comes_before (b ∷ m) (a ∷ l)) (by_first b a m l (ltb-true b a i)) h)
        at false i = ltb-false b a i

    rest : (a b : ℕ) (l m : List ℕ) → a ≡ b → comes_before (a ∷ l) (b ∷ m) ≡ false → comes_before l m ≡ false
    rest a b l m e h = is_false (comes_before l m) (λ i. not_both (comes_before (a ∷ l) (b ∷ m)) (by_rest a b l m e i) h)

-- a list does not come before one that is earlier by its first number, by the rest, or that is equal
pub not_first : (a b : ℕ) (l m : List ℕ) → b < a → comes_before (a ∷ l) (b ∷ m) ≡ false
not_first a b l m h = is_false (comes_before (a ∷ l) (b ∷ m)) (λ k. let i = head_le a b l m k in omega arith)

pub not_rest : (a b : ℕ) (l m : List ℕ) → a ≡ b → comes_before l m ≡ false → comes_before (a ∷ l) (b ∷ m) ≡ false
not_rest a b l m e h = is_false (comes_before (a ∷ l) (b ∷ m)) (λ k. go (compared a b l m k))
  where
    go : Compared a b l m → ⊥
    go (less x) = omega arith
    go (equal x y) = not_both (comes_before l m) y h

pub not_last : (a b : ℕ) → b ≤ a → comes_before (a ∷ []) (b ∷ []) ≡ false
not_last a b h = is_false (comes_before (a ∷ []) (b ∷ [])) (λ k. go (compared a b [] [] k))
  where
    go : Compared a b [] [] → ⊥
    go (less x) = omega arith
    go (equal x y) = not_both (comes_before [] []) y (irreflexive [])
