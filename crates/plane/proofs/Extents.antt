-- A node's line depends on the entries of its branches only through their extents, in any order.
use Prim.Native.Nat.{ℕ, suc, ◌≤◌, min, max}
use mathlib.Core.Bool.{Bool, true, false, ◌&&◌, ◌||◌, not, cond, or-false}
use mathlib.Core.Path.{◌≡◌, refl, sym, ap, ◌∙◌, fun_ext}
use mathlib.Core.List.{List, [], ◌∷◌}
use lib.ListN.{length}
use lib.Dec.{leb, ltb}
use native.Mathlib.Omega.{arith}
use borrow.Author.Tests.{le-leb, lt-leb, lt-ltb, le-ltb, leb-true, leb-false, ltb-true, ltb-false}
use Rattle.polygons.specs.Lists.{least}
use Rattle.geometry.specs.declared.rect.Line.{Line}
use Rattle.geometry.specs.declared.rect.Line.TheVariants.{AtX, AtY}
use Rattle.geometry.specs.Clip.{below}
use Rattle.tree.specs.Lists.{keep, not_empty, All, Bag}
use Rattle.tree.specs.Space.{Side, left, right}
use Rattle.tree.specs.Pass.{Alike}
use Rattle.tree.proofs.Lists.{all_map}
use Rattle.plane.specs.Best.{greatest}
use Rattle.plane.specs.Lines.{CellEntry, x_of, y_of, holds_on, fits, on_both, node_line}
use Rattle.plane.specs.Candidates.{extent_of, extents, extent_on}
use Rattle.plane.specs.Plane.{plane_space}
use Rattle.plane.proofs.Kept.{keep_same}

some_keep : {A : Type 0} (t : A → Bool) (a : A) (l : List A) → not_empty (keep t (a ∷ l)) ≡ t a || not_empty (keep t l)
unfolding keep
some_keep t a l = go (t a)
  where
    go : (b : Bool) → not_empty (cond b (a ∷ keep t l) (keep t l)) ≡ b || not_empty (keep t l)
    go true = refl
    go false = refl

min_ltb : (a b l : ℕ) → ltb a l || ltb b l ≡ ltb (min a b) l
min_ltb a b l = go (ltb a l) refl (ltb b l) refl
  where
    go : (p : Bool) → ltb a l ≡ p → (q : Bool) → ltb b l ≡ q → p || q ≡ ltb (min a b) l
    go true e q f = let k = ltb-true a l e in sym (lt-ltb (min a b) l (omega arith))
    go false e true f = let k = ltb-true b l f in sym (lt-ltb (min a b) l (omega arith))
    go false e false f = let k = ltb-false a l e in let j = ltb-false b l f in sym (le-ltb (min a b) l (omega arith))

max_leb : (a b l : ℕ) → not (ltb a l) || leb l b ≡ leb l (max a b)
max_leb a b l = go (ltb a l) refl (leb l b) refl
  where
    go : (p : Bool) → ltb a l ≡ p → (q : Bool) → leb l b ≡ q → not p || q ≡ leb l (max a b)
    go false e q f = let k = ltb-false a l e in sym (le-leb l (max a b) (omega arith))
    go true e true f = let k = leb-true l b f in sym (le-leb l (max a b) (omega arith))
    go true e false f = let k = ltb-true a l e in let j = leb-false l b f in sym (lt-leb l (max a b) (omega arith))

not_ltb : (a l : ℕ) → not (ltb a l) ≡ leb l a
not_ltb a l = go (ltb a l) refl
  where
    go : (p : Bool) → ltb a l ≡ p → not p ≡ leb l a
    go true e = let k = ltb-true a l e in sym (lt-leb l a k)
    go false e = let k = ltb-false a l e in sym (le-leb l a k)

module _ {A : Type 0} (v : A → ℕ) (l : ℕ) where
  -- some element is below the line: the least is
  left_extent : (a : A) (g : List A) → not_empty (keep (λ e. ltb (v e) l) (a ∷ g)) ≡ ltb (least v (a ∷ g)) l
  unfolding least
  left_extent a [] = some_keep (λ e. ltb (v e) l) a [] ∙ unfold keep in or-false (ltb (v a) l)
  left_extent a (b ∷ g) = some_keep (λ e. ltb (v e) l) a (b ∷ g) ∙ ap (λ (x : Bool). ltb (v a) l || x) (left_extent b g) ∙ min_ltb (v a) (least v (b ∷ g)) l

  -- some element is not below the line: the greatest is not
  right_extent : (a : A) (g : List A) → not_empty (keep (λ e. not (ltb (v e) l)) (a ∷ g)) ≡ leb l (greatest v (a ∷ g))
  unfolding greatest
  right_extent a [] = some_keep (λ e. not (ltb (v e) l)) a [] ∙ unfold keep in (or-false (not (ltb (v a) l)) ∙ not_ltb (v a) l)
  right_extent a (b ∷ g) = some_keep (λ e. not (ltb (v e) l)) a (b ∷ g) ∙ ap (λ (x : Bool). not (ltb (v a) l) || x) (right_extent b g) ∙ max_leb (v a) (greatest v (b ∷ g)) l

-- a group holds entries on a side as its extent says
pub extent_holds : (s : Side Line) (g : List CellEntry) → 1 ≤ length g → holds_on s g ≡ extent_on s (extent_of g)
unfolding below extent_of
extent_holds s [] n = absurd (omega arith)
extent_holds (left (AtX l)) (a ∷ g) n = left_extent x_of l a g
extent_holds (left (AtY l)) (a ∷ g) n = left_extent y_of l a g
extent_holds (right (AtX l)) (a ∷ g) n = right_extent x_of l a g
extent_holds (right (AtY l)) (a ∷ g) n = right_extent y_of l a g

-- no group is empty
abbrev pub SomeEach : List (List CellEntry) → Type 0
SomeEach gs = All (λ g. 1 ≤ length g) gs

module _ (gs : List (List CellEntry)) (h : SomeEach gs) where
  -- as many groups on a side as extents
  pub extents_count : (s : Side Line) → length (keep (holds_on s) gs) ≡ length (keep (extent_on s) (extents gs))
  extents_count s = keep_same (holds_on s) (extent_on s) extent_of gs (all_map (λ g. 1 ≤ length g) (λ g. holds_on s g ≡ extent_on s (extent_of g)) gs (λ g n. extent_holds s g n) h)

  -- a line fits the groups if it fits the extents
  pub extents_fit : (fanout : ℕ) (l : Line) → fits holds_on fanout gs l ≡ fits extent_on fanout (extents gs) l
  extents_fit fanout l = rw (extents_count (left l), extents_count (right l))

  -- as many groups on both sides as extents
  pub extents_both : (l : Line) → on_both holds_on gs l ≡ on_both extent_on (extents gs) l
  extents_both l = keep_same (λ g. holds_on (left l) g && holds_on (right l) g) (λ e. extent_on (left l) e && extent_on (right l) e) extent_of gs
      (all_map (λ g. 1 ≤ length g) (λ g. holds_on (left l) g && holds_on (right l) g ≡ extent_on (left l) (extent_of g) && extent_on (right l) (extent_of g)) gs (λ g n. rw (extent_holds (left l) g n, extent_holds (right l) g n)) h)

-- the order of entries does not matter
some_length : {A : Type 0} (l m : List A) → length l ≡ length m → not_empty l ≡ not_empty m
some_length [] [] h = refl
some_length [] (x ∷ m) h = let k : 0 ≡ suc (length m) = h in absurd (omega arith)
some_length (x ∷ l) [] h = let k : suc (length l) ≡ 0 = h in absurd (omega arith)
some_length (x ∷ l) (y ∷ m) h = refl

module _ (fanout : ℕ) where
  pub on_same : (s : Side Line) (g h : List CellEntry) → Bag g h → holds_on s g ≡ holds_on s h
  on_same (left l) g h b = some_length (keep (λ e. below l e.cell) g) (keep (λ e. below l e.cell) h) (b (λ e. below l e.cell))
  on_same (right l) g h b = some_length (keep (λ e. not (below l e.cell)) g) (keep (λ e. not (below l e.cell)) h) (b (λ e. not (below l e.cell)))

  pub count_same : (t : List CellEntry → Bool) (gs hs : List (List CellEntry)) → ((g h : List CellEntry) → Bag g h → t g ≡ t h) → Alike (plane_space fanout) gs hs → length (keep t gs) ≡ length (keep t hs)
  unfolding keep
  count_same t [] [] f a = refl
  count_same t [] (h ∷ hs) f a = absurd a
  count_same t (g ∷ gs) [] f a = absurd a
  count_same t (g ∷ gs) (h ∷ hs) f a = rw (f g h a.0) (go (t h) (count_same t gs hs f a.1))
    where
      go : (b : Bool) → length (keep t gs) ≡ length (keep t hs) → length (cond b (g ∷ keep t gs) (keep t gs)) ≡ length (cond b (h ∷ keep t hs) (keep t hs))
      go true e = ap suc e
      go false e = e

  -- groups that are equal but for the order inside them have one line
  pub node_same : (gs hs : List (List CellEntry)) → Alike (plane_space fanout) gs hs → node_line fanout gs ≡ node_line fanout hs
  unfolding node_line
  node_same gs hs a =
      let e : fits holds_on fanout gs ≡ fits holds_on fanout hs = fun_ext (λ l. rw (count_same (holds_on (left l)) gs hs (on_same (left l)) a, count_same (holds_on (right l)) gs hs (on_same (right l)) a)) in
      let d : on_both holds_on gs ≡ on_both holds_on hs = fun_ext (λ l. count_same (λ g. holds_on (left l) g && holds_on (right l) g) gs hs (λ g h b. rw (on_same (left l) g h b, on_same (right l) g h b)) a) in
      rw (e, d)
