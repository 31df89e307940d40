-- Refine goes on where it stood: what is known after a drop, after a join, and where neither applies.
use mathlib.Core.Path.{◌≡◌, refl, sym, ◌∙◌, ap}
use mathlib.Core.Bool.{Bool, true, false, not, ◌&&◌, false≢true}
use mathlib.Core.Logic.{⊎_elim}
use mathlib.Core.List.{List}
use Prim.Native.Nat.{ℕ, ◌+◌, ◌-◌, ◌≤◌, ◌<◌, min, max}
use native.Mathlib.Omega.{arith}
use native.Mathlib.Decide.{dec_lt}
use borrow.Author.Tests.{leb-true, le-leb, eqb-true, eqb-false, eq-eqb, ne_eqb}
use lib.Dec.{leb, eqb}
use lib.ListN.{length, get_or, set, length-set}
use lib.Seq.{get_or-set_same, get_or-set_other}
use Rattle.polygons.proofs.Booleans.{is_false, not_both, either, or_left, or_right, split_and, all4}
use Rattle.geometry.specs.declared.rect.Rect.{Rect}
use Rattle.geometry.specs.Cells.{no_rect}
use Rattle.geometry.specs.Refine.{first_from, within, contained, first_contained, dropped, stacked, abreast, joinable, union, joins, partner, has_partner, first_join, joined}
use Rattle.geometry.proofs.RefineLaws.{first_passes, length_dropped, length_joined, Pair, join_found, contained_found}
use Rattle.refinement.specs.Search.{in_union, joins_union, union_partner, place_without, OnlyContainer, AfterJoin, UnjoinedBefore, NextPair}
use Rattle.refinement.proofs.FirstLaws.{first_before, first_same, in_earlier, in_later, contained_none, uncontained, unpaired, no_partner, partner_is, first_join_is}
use Rattle.refinement.proofs.DropLaws.{side, dropped_low, dropped_high}

-- another one that is not earlier is later
later_other : (i j : ℕ) → (i ≡ j → ⊥) → (j < i → ⊥) → i < j
later_other i j d h = ⊎_elim (λ a. a) (λ a. absurd (h a)) (side i j d)

-- what contains the union of two rectangles contains the first
within_union : (r s t : Rect) → within (union r s) t ≡ true → within r t ≡ true
unfolding within union
within_union r s t e =
    let f = all4 _ _ _ _ e in
    let a : t.llx ≤ min r.llx s.llx = leb-true _ _ f.0 in
    let b : max r.urx s.urx ≤ t.urx = leb-true _ _ f.1 in
    let c : t.lly ≤ min r.lly s.lly = leb-true _ _ f.2 in
    let d : max r.ury s.ury ≤ t.ury = leb-true _ _ f.3 in
    simp (le-leb _ _ (low _ _ _ a), le-leb _ _ (high _ _ _ b), le-leb _ _ (low _ _ _ c), le-leb _ _ (high _ _ _ d))
  where
    low : (x y z : ℕ) → x ≤ min y z → x ≤ y
    low x y z h = omega arith

    high : (x y z : ℕ) → max y z ≤ x → y ≤ x
    high x y z h = omega arith

-- where none is contained in another, no one is within any other
none_within : (l : List Rect) → length l ≤ first_contained l → (i j : ℕ) → i < length l → j < length l → (i ≡ j → ⊥)
    → within (get_or l i no_rect) (get_or l j no_rect) ≡ false
none_within l h i j g k d = is_false _ (λ e. go e (dec_lt j i) (within (get_or l j no_rect) (get_or l i no_rect)) refl)
  where
    go : within (get_or l i no_rect) (get_or l j no_rect) ≡ true → Dec (j < i)
        → (b : Bool) → within (get_or l j no_rect) (get_or l i no_rect) ≡ b → ⊥
    go e (yes m) b q = not_both _ (in_earlier l i g j m e) (uncontained l h i g)
    go e (no m) true q = not_both _ (in_earlier l j k i (later_other i j d m) q) (uncontained l h j k)
    go e (no m) false q = not_both _ (in_later l i g j (later_other i j d m) k e q) (uncontained l h i g)

-- after a join one is contained in another exactly if it is in the union
module _ (l : List Rect) (p : ℕ) (v : OnlyContainer l p) where
  contained_in_union : (i : ℕ) → i < length l → contained l i ≡ in_union l p i
  unfolding in_union
  contained_in_union i g = go (eqb i p) refl (within (get_or l i no_rect) (get_or l p no_rect)) refl
    where
      other : within (get_or l i no_rect) (get_or l p no_rect) ≡ false → (j : ℕ) → j < length l → (i ≡ j → ⊥)
          → (b : Bool) → eqb j p ≡ b
          → within (get_or l i no_rect) (get_or l j no_rect) ≡ false
      other q j h d true e = rw (eqb-true j p e) q
      other q j h d false e = v.apart i j g h d (eqb-false j p e)

      in_it : within (get_or l i no_rect) (get_or l p no_rect) ≡ true → (i ≡ p → ⊥) → contained l i ≡ true
      in_it q d = ⊎_elim
          (λ h. in_later l i g p h v.inside q (v.apart p i v.inside g (λ z. d (sym z)) d))
          (λ h. in_earlier l i g p h q)
          (side i p d)

      go : (a : Bool) → eqb i p ≡ a → (b : Bool) → within (get_or l i no_rect) (get_or l p no_rect) ≡ b
          → contained l i ≡ not a && b
      go true e b q = contained_none l i g (λ j h d. v.apart i j g h d (λ z. d (eqb-true i p e ∙ sym z)))
      go false e true q = in_it q (eqb-false i p e)
      go false e false q = contained_none l i g (λ j h d. other q j h d (eqb j p) refl)

  pub first_in_union : first_contained l ≡ first_from (in_union l p) 0 (length l)
  unfolding first_contained
  first_in_union = first_same (contained l) (in_union l p) 0 (length l) (λ k g h. contained_in_union k (omega arith))

  -- the union itself is not contained in another
  pub union_uncontained : first_contained l < length l → first_contained l ≡ p → ⊥
  unfolding in_union
  union_uncontained h e =
      let f : contained l p ≡ false = rw (contained_in_union p v.inside, eq-eqb p p refl) in
      not_both _ (rw e at (contained_found l h)) f

-- where what is at j stood before the k-th was taken out: one more from k on
abbrev place_before : ℕ → ℕ → ℕ
place_before j k = j + (1 - (k - j))

shift_high : (k i p : ℕ) → k < p → place_before i k ≡ p → i ≡ place_without p k
shift_high k i p h e = omega arith

shift_low : (k i p : ℕ) → p < k → place_before i k ≡ p → i ≡ place_without p k
shift_low k i p h e = omega arith

module _ (k i : ℕ) where
  before_inside : (n n' : ℕ) → n' + 1 ≡ n → i < n' → place_before i k < n
  before_inside n n' e h = omega arith

  before_less : (j : ℕ) → i < j → place_before i k < place_before j k
  before_less j h = omega arith

  before_other : (j : ℕ) → (i ≡ j → ⊥) → place_before i k ≡ place_before j k → ⊥
  before_other j d e = d (omega arith)

  before_from : (from : ℕ) → i < place_without from k → place_before i k < from
  before_from from h = omega arith

  before_place : (p : ℕ) → (k ≡ p → ⊥) → (i ≡ place_without p k → ⊥) → place_before i k ≡ p → ⊥
  before_place p d f e = go (dec_lt k p)
    where
      go : Dec (k < p) → ⊥
      go (yes a) = f (shift_high k i p a e)
      go (no a) = f (shift_low k i p (later_other p k (λ z. d (sym z)) a) e)

  -- nothing comes from the place that was taken out
  before_gone : place_before i k ≡ k → ⊥
  before_gone e = omega arith

  before_low : (p : ℕ) → p < k → (i ≡ p → ⊥) → place_before i k ≡ p → ⊥
  before_low p h d e = d (omega arith)

without_le : (k p from : ℕ) → p ≤ from → place_without p k ≤ place_without from k
without_le k p from h = omega arith

without_inside : (k n n' p : ℕ) → n' + 1 ≡ n → k < n → p ≤ n → place_without p k ≤ n'
without_inside k n n' p e h g = omega arith

without_less : (k n n' p : ℕ) → n' + 1 ≡ n → k < n → p < n → (k ≡ p → ⊥) → place_without p k < n'
without_less k n n' p e h g d = go (dec_lt k p)
  where
    go : Dec (k < p) → place_without p k < n'
    go (yes a) = omega arith
    go (no a) = let b = later_other p k (λ z. d (sym z)) a in omega arith

dropped_at : (l : List Rect) (k j : ℕ) → k < length l
    → get_or (dropped l k) j no_rect ≡ get_or l (place_before j k) no_rect
dropped_at l k j h = go (dec_lt j k)
  where
    go : Dec (j < k) → get_or (dropped l k) j no_rect ≡ get_or l (place_before j k) no_rect
    go (yes g) =
        let e : j ≡ place_before j k = omega arith in
        dropped_low l k j h g ∙ ap (λ (x : ℕ). get_or l x no_rect) e
    go (no g) =
        let e : j + 1 ≡ place_before j k = omega arith in
        dropped_high l k j h (omega arith) ∙ ap (λ (x : ℕ). get_or l x no_rect) e

-- what is known after a join stays known when one is dropped
pub after_join_dropped : (l : List Rect) (p from k : ℕ) → AfterJoin l p from → k < length l → (k ≡ p → ⊥)
    → AfterJoin (dropped l k) (place_without p k) (place_without from k)
unfolding joins
after_join_dropped l p from k v h d =
    let n = length_dropped l k h in
    record {
      only = record {
        inside = without_less k _ _ p n h v.only.inside d;
        apart = λ i j g m x y. rw (dropped_at l k i h, dropped_at l k j h)
            (v.only.apart _ _ (before_inside k i _ _ n g) (before_inside k j _ _ n m)
            (before_other k i j x) (before_place k j p d y));
      };
      low = without_le k p from v.low;
      high = without_inside k _ _ from n h v.high;
      unjoined = λ i j g m q x y. rw (dropped_at l k i h, dropped_at l k j h)
          (v.unjoined _ _ (before_less k i j g) (before_from k i from m) (before_inside k j _ _ n q)
          (before_place k i p d x) (before_place k j p d y));
    }

-- after a join only the union can contain another, and only with it others can have become joinable
pub after_join : (l : List Rect) (i j from : ℕ) → NextPair l i j from → AfterJoin (joined l i j) i (place_without from j)
unfolding joins
after_join l i j from v =
    let n = length_joined l i j v.inside in
    let a = v.after in
    record {
      only = record {
        inside = omega (arith, v.inside);
        apart = λ x y g m e f. apart x y (before_inside j x _ _ n g) (before_inside j y _ _ n m) e f (eqb x i) refl;
      };
      low = low v.after v.low;
      high = without_inside j _ _ from n v.inside v.high;
      unjoined = λ x y g m q e f. rw (other x e, other y f)
          (v.unjoined _ _ (before_less j x y g) (before_from j x from m) (before_inside j y _ _ n q)
          (before_low j x i a e) (before_gone j x) (before_low j y i a f) (before_gone j y));
    }
  where
    low : i < j → i ≤ from → i ≤ place_without from j
    low h g = omega arith

    inside : j < length (set l i (union (get_or l i no_rect) (get_or l j no_rect)))
    inside = rw length-set v.inside

    other : (x : ℕ) → (x ≡ i → ⊥) → get_or (joined l i j) x no_rect ≡ get_or l (place_before x j) no_rect
    other x e = dropped_at _ j x inside ∙ get_or-set_other l i (place_before x j) _ no_rect (before_low j x i v.after e)

    itself : get_or (joined l i j) i no_rect ≡ union (get_or l i no_rect) (get_or l j no_rect)
    itself = dropped_low _ j i inside v.after ∙ get_or-set_same l i _ no_rect (omega (arith, v.after, v.inside))

    apart : (x y : ℕ) → place_before x j < length l → place_before y j < length l → (x ≡ y → ⊥) → (y ≡ i → ⊥)
        → (b : Bool) → eqb x i ≡ b
        → within (get_or (joined l i j) x no_rect) (get_or (joined l i j) y no_rect) ≡ false
    apart x y g m e f true q =
        rw (eqb-true x i q, itself, other y f)
        (is_false _ (λ w. not_both _ (within_union _ _ _ w)
        (none_within l v.none_contained i (place_before y j) (omega (arith, v.after, v.inside)) m
        (λ z. before_low j y i v.after f (sym z)))))
    apart x y g m e f false q =
        rw (other x (eqb-false x i q), other y f)
        (none_within l v.none_contained (place_before x j) (place_before y j) g m (before_other j x y e))

-- joinable goes both ways
stacked_swap : (r s : Rect) → stacked r s ≡ true → stacked s r ≡ true
unfolding stacked
stacked_swap r s e =
    let f = all4 _ _ _ _ e in
    let a : r.llx ≡ s.llx = eqb-true _ _ f.0 in
    let b : r.urx ≡ s.urx = eqb-true _ _ f.1 in
    let c : leb r.lly s.ury ≡ true = f.2 in
    let d : leb s.lly r.ury ≡ true = f.3 in
    rw (eq-eqb s.llx r.llx (sym a), eq-eqb s.urx r.urx (sym b), c, d)

abreast_swap : (r s : Rect) → abreast r s ≡ true → abreast s r ≡ true
unfolding abreast
abreast_swap r s e =
    let f = all4 _ _ _ _ e in
    let a : r.lly ≡ s.lly = eqb-true _ _ f.0 in
    let b : r.ury ≡ s.ury = eqb-true _ _ f.1 in
    let c : leb r.llx s.urx ≡ true = f.2 in
    let d : leb s.llx r.urx ≡ true = f.3 in
    rw (eq-eqb s.lly r.lly (sym a), eq-eqb s.ury r.ury (sym b), c, d)

joinable_swap : (r s : Rect) → joinable r s ≡ true → joinable s r ≡ true
unfolding joinable
joinable_swap r s e = ⊎_elim
    (λ w. or_left _ _ (stacked_swap r s w))
    (λ w. or_right (stacked s r) _ (abreast_swap r s w))
    (either (stacked r s) (abreast r s) e)

unjoinable_swap : (r s : Rect) → joinable r s ≡ false → joinable s r ≡ false
unjoinable_swap r s e = is_false _ (λ t. not_both _ (joinable_swap s r t) e)

-- a pair that is joinable, with none before it
next_pair : (l : List Rect) (i j from : ℕ) → i < j → j < length l → i ≤ from → from ≤ length l
    → length l ≤ first_contained l
    → joins l i j ≡ true
    → ((y : ℕ) → i < y → y < j → joins l i y ≡ false)
    → ((x y : ℕ) → x < i → x < y → y < length l → joins l x y ≡ false)
    → ((x y : ℕ) → x < y → x < from → y < length l → (x ≡ i → ⊥) → (x ≡ j → ⊥) → (y ≡ i → ⊥) → (y ≡ j → ⊥)
    → joins l x y ≡ false)
    → NextPair l i j from
next_pair l i j from g h a b c e f d u =
    let second = partner_is l i j g h e f in
    record {
      after = g;
      inside = h;
      low = a;
      high = b;
      none_contained = c;
      first = sym (first_join_is l i j g h second d);
      second = sym second;
      unjoined = u;
    }

-- After a join, where none is contained in another: the next pair is the union with the first that is joinable with it.
module _ (l : List Rect) (p from q : ℕ) (v : AfterJoin l p from) (h : length l ≤ first_contained l)
    (e : q ≡ union_partner l p) where
  miss : (x : ℕ) → x < q → (x ≡ p → ⊥) → joinable (get_or l x no_rect) (get_or l p no_rect) ≡ false
  unfolding joins_union union_partner
  miss x g d =
      let f : not (eqb x p) && joinable (get_or l x no_rect) (get_or l p no_rect) ≡ false =
      first_before (joins_union l p) 0 (length l) x (omega arith) (omega arith) in
      rw (ne_eqb x p d) at f

  hit : q < length l → joins_union l p q ≡ true
  unfolding union_partner
  hit g = rw e (first_passes (joins_union l p) 0 (length l) (omega arith))

  fits : q < length l → joinable (get_or l q no_rect) (get_or l p no_rect) ≡ true
  unfolding joins_union
  fits g = (split_and (not (eqb q p)) _ (hit g)).1

  -- one before the union and before its partner is joinable with no later one
  lower : (x y : ℕ) → x < p → x < q → x < y → y < length l → (b : Bool) → eqb y p ≡ b → joins l x y ≡ false
  unfolding joins
  lower x y a b c d true f = rw (eqb-true y p f) (miss x b (λ z. omega arith))
  lower x y a b c d false f = v.unjoined x y c (omega (arith, v.low)) d (λ z. omega arith) (eqb-false y p f)

  -- the partner is before the union
  pub union_partner_before : q < p → NextPair l q p from
  unfolding joins
  union_partner_before g =
      let k = v.low in
      let m = v.only.inside in
      next_pair l q p from g m (omega arith) v.high h (fits (omega arith))
      (λ y a b. v.unjoined q y a (omega arith) (omega arith) (λ z. omega arith) (λ z. omega arith))
      (λ x y a b c. lower x y (omega arith) a b c (eqb y p) refl)
      (λ x y a b c d f s t. v.unjoined x y a b c f t)

  -- the partner is after the union
  pub union_partner_after : q < length l → p ≤ q → NextPair l p q from
  unfolding joins_union joins
  union_partner_after g k =
      let d : q ≡ p → ⊥ = λ z. eqb-false q p (not_true _ (split_and (not (eqb q p)) _ (hit g)).0) z in
      let m : p < q = later_other p q (λ z. d (sym z)) (λ z. omega arith) in
      next_pair l p q from m g v.low v.high h (joinable_swap _ _ (fits g))
      (λ y a b. unjoinable_swap _ _ (miss y b (λ z. omega arith)))
      (λ x y a b c. lower x y a (omega arith) b c (eqb y p) refl)
      (λ x y a b c d f s t. v.unjoined x y a b c d s)
    where
      not_true : (b : Bool) → not b ≡ true → b ≡ false
      not_true true z = absurd (false≢true z)
      not_true false z = refl

  -- the union has no partner: before the given one none is joinable with a later one
  pub union_partner_none : length l ≤ q → UnjoinedBefore l from
  unfolding joins
  union_partner_none g = record {
    high = v.high;
    none_contained = h;
    unjoined = λ k m. unpaired l k (omega (arith, v.high)) (λ j a b. go k j m a b (eqb k p) refl (eqb j p) refl);
  }
    where
      go : (k j : ℕ) → k < from → k < j → j < length l → (b : Bool) → eqb k p ≡ b → (c : Bool) → eqb j p ≡ c
          → joins l k j ≡ false
      go k j m a b true s c t =
          let z = eqb-true k p s in
          rw z (unjoinable_swap _ _ (miss j (omega arith) (λ w. omega arith)))
      go k j m a b false s true t = rw (eqb-true j p t) (miss k (omega arith) (eqb-false k p s))
      go k j m a b false s false t = v.unjoined k j a m b (eqb-false k p s) (eqb-false j p t)

-- where none is contained in another, the first pair is next
pub first_pair : (l : List Rect) (i j : ℕ) → length l ≤ first_contained l → i ≡ first_join l → j ≡ partner l i
    → i < length l
    → NextPair l i j i
unfolding first_join
first_pair l i j h e f g =
    let w : Pair l i = rw e (join_found l (omega arith)) in
    record {
      after = rw f w.after;
      inside = rw f w.inside;
      low = omega arith;
      high = omega arith;
      none_contained = h;
      first = e;
      second = f;
      unjoined = λ x y a b c _ _ _ _.
          no_partner l x y (first_before (has_partner l) 0 (length l) x (omega arith) (omega arith)) a c;
    }
