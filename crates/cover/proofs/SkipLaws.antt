-- The first rectangle that shares a cell with r: those before it may be left out of what they do not change.
use Rattle.std.proofs.Common.{◌≡◌, ◌<◌, ◌≤◌, ◌+◌, ◌-◌, ℕ, zero, suc, length, drop, arith, Bool, true, false, cond, List, [], ◌∷◌, refl, sym, ap, ◌∙◌, Option, Some, None}
use Rattle.geometry.specs.declared.rect.Rect.{Rect}
use Rattle.geometry.specs.Common.{shares_with}
use Rattle.geometry.specs.Numbers.{rect_at, rects_in}
use Rattle.geometry.proofs.NumberLaws.{rects_next}
use denote.Param.Members.{Mut}
use denote.Ref.{Bor}
use Rattle.std.specs.Fn.{CalledAt}
use Rattle.std.specs.Option.{IfSome}
use Rattle.std.specs.Iterator.{YieldsFirst, YieldsThen, FindsItem}
use Rattle.std.specs.List.{FoldsTo}
use Rattle.geometry.specs.declared.rects.Rects.{Rects}
use Rattle.geometry.specs.Rects.{rects_left}
use Rattle.cover.specs.Tests.{from_shared, FirstShared}

module _ (r : Rect) where
  -- it shares a cell
  pub shared_first : (p : List Rect) (s : Rect) (rest : List Rect) → from_shared p r ≡ s ∷ rest → shares_with s r ≡ true
  unfolding from_shared
  shared_first [] s rest e = absurd cc
  shared_first (q ∷ p) s rest e = go (shares_with q r) refl (shared_first p s rest) e
    where
      go : (b : Bool) → shares_with q r ≡ b → (from_shared p r ≡ s ∷ rest → shares_with s r ≡ true) → cond b (q ∷ p) (from_shared p r) ≡ s ∷ rest → shares_with s r ≡ true
      go true f ih h = let z : q ≡ s = cc in rw (← z) f
      go false f ih h = ih h

  -- fewer stand behind it
  pub fewer_behind : (p : List Rect) (s : Rect) (rest : List Rect) → from_shared p r ≡ s ∷ rest → length rest < length p
  unfolding from_shared
  fewer_behind [] s rest e = absurd cc
  fewer_behind (q ∷ p) s rest e = go (shares_with q r) (fewer_behind p s rest) e
    where
      go : (b : Bool) → (from_shared p r ≡ s ∷ rest → length rest < length p) → cond b (q ∷ p) (from_shared p r) ≡ s ∷ rest → length rest < suc (length p)
      go true ih h = let z : p ≡ rest = cc in rw z (omega arith)
      go false ih h = let k = ih h in omega arith

  -- what no rectangle that shares no cell with r changes is the same without those before it
  pub shared_same : {A : Type 0} (f : List Rect → A) → ((s : Rect) (l : List Rect) → shares_with s r ≡ false → f (s ∷ l) ≡ f l) → (p : List Rect) → f p ≡ f (from_shared p r)
  unfolding from_shared
  shared_same f g [] = refl
  shared_same f g (s ∷ p) = go (shares_with s r) refl (shared_same f g p)
    where
      go : (b : Bool) → shares_with s r ≡ b → f p ≡ f (from_shared p r) → f (s ∷ p) ≡ f (cond b (s ∷ p) (from_shared p r))
      go true e ih = refl
      go false e ih = g s p e ∙ ih

-- the rectangles from the i-th to before the j-th of n share no cell with r, so they cut nothing of it
pub record Skipped (m : List ℕ) (n : ℕ) (r : Rect) (i j : ℕ) : Type 0 where
  pub from : i ≤ j
  pub to : j ≤ n
  pub unshared : (k : ℕ) → i ≤ k → k < j → shares_with (rect_at m k) r ≡ false

-- the same for any of those before it: what none of them changes is the same without them
module _ {A : Type 0} (m : List ℕ) (n : ℕ) (r : Rect) (f : List Rect → A) (g : (s : Rect) (l : List Rect) → shares_with s r ≡ false → f (s ∷ l) ≡ f l) where
  same_past : (d i j : ℕ) → i + d ≡ j → j ≤ n → ((k : ℕ) → i ≤ k → k < j → shares_with (rect_at m k) r ≡ false)
      → f (drop i (rects_in m n)) ≡ f (drop j (rects_in m n))
  same_past zero i j e t h =
      let z : i ≡ j = omega arith in
      rw z
  same_past (suc d) i j e t h =
      ap f (rects_next m n i (omega arith))
      ∙ g (rect_at m i) (drop (i + 1) (rects_in m n)) (h i (omega arith) (omega arith))
      ∙ same_past d (i + 1) j (omega arith) t (λ k a b. h k (omega arith) b)

  pub skipped_same : (i j : ℕ) → Skipped m n r i j → f (drop i (rects_in m n)) ≡ f (drop j (rects_in m n))
  skipped_same i j v = let a = v.from in same_past (j - i) i j (omega arith) v.to v.unshared

-- a `find` for it gives it, and leaves those behind it
module _ {F : Type 0} (g : Mut F (Bor Rect × Unit {0}) Bool) (r : Rect) (f : F)
    (tests : (x : Rect) (b : Bool) (q : F) → CalledAt g f x b q → (q ≡ f) × (b ≡ shares_with x r)) where
  stops : (found : Option Rect) (s u : Rects) (q : F) → q ≡ f → YieldsFirst rects_left s found u → IfSome found (λ x. (h : F) × CalledAt g q x true h) → FirstShared (rects_left s) r found (rects_left u)
  unfolding from_shared
  stops None s u q e y h = rw y.0
  stops (Some x) s u q e y h =
      let k = tests x true h.0 (rw e at h.1) in
      rw (y, ← k.1)

  passed_one : (found : Option Rect) (x : Rect) (p rest : List Rect) → shares_with x r ≡ false → FirstShared p r found rest → FirstShared (x ∷ p) r found rest
  unfolding from_shared
  passed_one None x p rest e h = rw e h
  passed_one (Some s) x p rest e h = rw e h

  passed : (found : Option Rect) (xs : List Rect) (s u : Rects) (p q : F) → p ≡ f → YieldsThen (YieldsFirst rects_left) s xs found u → FoldsTo (λ k x j. CalledAt g k x false j) p xs q
      → IfSome found (λ x. (h : F) × CalledAt g q x true h) → FirstShared (rects_left s) r found (rects_left u)
  unfolding from_shared
  passed found [] s u p q a y c h = rw y.1 (stops found y.0 u q (sym c ∙ a) y.2 h)
  passed found (x ∷ xs) s u p q a y c h =
      let k = tests x false c.0 (rw a at c.1) in
      let ih = passed found xs y.1.0 u c.0 q k.0 (y.0, y.1.2, y.2) c.2 h in
      rw y.1.1 (passed_one found x _ _ (sym k.1) ih)

  pub next_found : (found : Option Rect) (s u : Rects) → FindsItem (YieldsFirst rects_left) g s f found u → FirstShared (rects_left s) r found (rects_left u)
  next_found found s u w = passed found w.0 s u f w.1 refl w.2 w.3 w.4
