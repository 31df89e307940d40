-- Searches for the first place that passes a test: what they answer, from what passes and what does not.
use mathlib.Core.Path.{◌≡◌, refl, sym, ◌∙◌, ap}
use mathlib.Core.Bool.{Bool, true, false, not, cond}
use mathlib.Core.List.{List}
use Prim.Native.Nat.{ℕ, ◌+◌, ◌-◌, ◌≤◌, ◌<◌}
use native.Mathlib.Omega.{arith}
use native.Mathlib.Decide.{dec_lt}
use native.Mathlib.Nat.{sub-zero}
use lib.ListN.{length, drop, get_or}
use lib.Dec.{ltb, eqb}
use borrow.Author.Tests.{lt-ltb, le-ltb, ltb-true, ltb-false, eq-eqb, ne_eqb}
use Rattle.std.specs.Prelude.{Option, None, Some, MatchOption}
use Rattle.std.specs.Option.{option_map}
use Rattle.std.specs.declared.ops.Range.{Range}
use Rattle.std.proofs.iter.Yields.{nat_range_steps}
use Rattle.std.specs.Fn.{CalledAt}
use Rattle.std.specs.Iterator.{FindsItem}
use denote.Param.Members.{Mut}
use denote.Ref.{Bor}
use Rattle.std.proofs.lemmas.Iterator.{first_from_Range}
use Rattle.polygons.specs.Lists.{any}
use Rattle.polygons.proofs.Booleans.{not_both}
use Rattle.geometry.specs.declared.rect.Rect.{Rect}
use Rattle.geometry.specs.Cells.{no_rect}
use Rattle.geometry.specs.Numbers.{rect_at, rects_in}
use Rattle.geometry.specs.Refine.{first_from, within, strictly_within, contained, first_contained, joinable, joins, partner, has_partner, first_join}
use Rattle.geometry.proofs.NumberLaws.{length_rects, rects_at, rects_take}
use Rattle.geometry.proofs.RefineLaws.{first_low, first_passes}
use Rattle.refinement.specs.Search.{below, with_partner, first_two, in_union, joins_union, union_partner, UncontainedBefore, UnjoinedBefore, OnlyContainer}
use Rattle.refinement.proofs.FirstLaws.{first_is}
use Rattle.refinement.proofs.SearchLaws.{first_in_union}

-- what a search answers, by the definition of the place
module _ (n w : ℕ) (o : Option ℕ) (e : o ≡ below n w) where
  pub below_none : o ≡ None → n ≤ w
  unfolding below
  below_none f = go (ltb w n) refl (sym f ∙ e)
    where
      go : (b : Bool) → ltb w n ≡ b → None ≡ cond b (Some w) None → n ≤ w
      go true t q = absurd cc
      go false t q = ltb-false _ _ t

  both_below : (i : ℕ) → o ≡ Some i → (i < n) × (i ≡ w)
  unfolding below
  both_below i f = go (ltb w n) refl (sym f ∙ e)
    where
      go : (b : Bool) → ltb w n ≡ b → Some i ≡ cond b (Some w) None → (i < n) × (i ≡ w)
      go true t q = let z : i ≡ w = cc in (rw z (ltb-true _ _ t), z)
      go false t q = absurd cc

  pub below_found : (i : ℕ) → o ≡ Some i → i < n
  below_found i f = (both_below i f).0

  pub below_is : (i : ℕ) → o ≡ Some i → i ≡ w
  below_is i f = (both_below i f).1

-- a search from a place on before which none passes
abbrev pub Found : (ℕ → Bool) → ℕ → ℕ → Option ℕ → Type 0
Found p from n o = MatchOption o ((k : ℕ) → from ≤ k → k < n → p k ≡ false)
    (λ i. (from ≤ i) × (i < n) × (p i ≡ true) × ((k : ℕ) → from ≤ k → k < i → p k ≡ false))

-- `find` over the places from one up to another, where the closure computes the test
module _ {F : Type 0} {g : Mut F (Bor ℕ × Unit {0}) Bool} (test : ℕ → Bool) (s u : Range ℕ) (f : F) (o : Option ℕ) where
  pub finds : FindsItem nat_range_steps g s f o u
      → ((x : ℕ) (b : Bool) (q : F) → CalledAt g f x b q → (q ≡ f) × (b ≡ test x))
      → Found test s.start s.end o
  finds d k =
      first_from_Range s u f o (λ i. test i ≡ true) (λ i. test i ≡ false) d (λ x q c. sym (k x true q c).1) (λ x q c.
      let e = k x false q c in (e.0, sym e.1))

-- it answers the first place from an earlier one on, where none passes in between
module _ (p : ℕ → Bool) (a from n : ℕ) (g : a ≤ from) (h : (k : ℕ) → a ≤ k → k < from → p k ≡ false) where
  before : (m : ℕ) → ((k : ℕ) → from ≤ k → k < m → p k ≡ false) → (k : ℕ) → a ≤ k → k < m → p k ≡ false
  before m f k b c = go (dec_lt k from)
    where
      go : Dec (k < from) → p k ≡ false
      go (yes d) = h k b d
      go (no d) = f k (omega arith) c

  none : ((k : ℕ) → from ≤ k → k < n → p k ≡ false) → n ≤ first_from p a (n - a)
  none f = go (dec_lt (first_from p a (n - a)) n)
    where
      go : Dec (first_from p a (n - a) < n) → n ≤ first_from p a (n - a)
      go (yes d) =
          let l = first_low p a (n - a) in
          absurd (not_both _ (first_passes p a (n - a) (omega arith)) (before n f _ l d))
      go (no d) = omega arith

  pub found : (o : Option ℕ) → Found p from n o → o ≡ below n (first_from p a (n - a))
  unfolding below
  found None f = rw (le-ltb _ _ (none f))
  found (Some i) f =
      let z : first_from p a (n - a) ≡ i =
      first_is p a (n - a) i (omega (arith, f.0)) (omega (arith, f.0, f.1)) f.2 (before i f.3) in
      rw (z, lt-ltb _ _ f.1)

-- the same of a test that agrees
pub found_same : (p q : ℕ → Bool) (from n : ℕ) → ((k : ℕ) → k < n → p k ≡ q k) → (o : Option ℕ) → Found p from n o
    → Found q from n o
found_same p q from n e None f = λ k g h. sym (e k h) ∙ f k g h
found_same p q from n e (Some i) f =
    (f.0, f.1, sym (e i f.1) ∙ f.2, λ k g h. sym (e k (omega (arith, f.1))) ∙ f.3 k g h)

-- where none passes before, from the first place on
found_all : (p : ℕ → Bool) (from n : ℕ) (l : List Rect) → length l ≡ n → ((k : ℕ) → k < from → p k ≡ false) → (o : Option ℕ)
    → Found p from n o → o ≡ below n (first_from p 0 (length l))
found_all p from n l e h o f =
    found p 0 from n (omega arith) (λ k _ g. h k g) o f
    ∙ ap (λ (m : ℕ). below n (first_from p 0 m)) (sub-zero n ∙ sym e)

-- the i-th of n rectangles, r, is contained in another
module _ (m : List ℕ) (n i : ℕ) (h : i < n) (r : Rect) (e : r ≡ rect_at m i) (earlier : List Rect)
    (g : earlier ≡ rects_in m i) (k : Bool) (f : k ≡ any (within r) earlier) where
  at : get_or (rects_in m n) i no_rect ≡ r
  at = rects_at m n i h ∙ sym e

  pub contained_before : k ≡ true → k ≡ contained (rects_in m n) i
  unfolding contained
  contained_before q = rw (at, rects_take m n i (omega arith), ← g, ← f, q)

  pub contained_after : (b : Bool) (later : List Rect) → k ≡ false → later ≡ drop (i + 1) (rects_in m n)
      → b ≡ any (strictly_within r) later
      → b ≡ contained (rects_in m n) i
  unfolding contained
  contained_after b later q l t = rw (at, rects_take m n i (omega arith), ← g, ← f, q, ← l) t

-- the first contained one
pub contained_found : (m : List ℕ) (n from : ℕ) (o : Option ℕ) → UncontainedBefore (rects_in m n) from
    → Found (contained (rects_in m n)) from n o
    → o ≡ below n (first_contained (rects_in m n))
unfolding first_contained
contained_found m n from o v =
    found_all (contained (rects_in m n)) from n (rects_in m n) (length_rects m n) v.uncontained o

-- after a join at p: the first contained one, and the first that is joinable with the p-th
module _ (m : List ℕ) (n p : ℕ) where
  pub union_inside : OnlyContainer (rects_in m n) p → p < n
  union_inside v = let e = length_rects m n in omega (arith, v.inside)

  module _ (o : Option ℕ) where
    pub union_found : OnlyContainer (rects_in m n) p → Found (in_union (rects_in m n) p) 0 n o
        → o ≡ below n (first_contained (rects_in m n))
    union_found v f =
        found_all (in_union (rects_in m n) p) 0 n (rects_in m n) (length_rects m n) (λ k g. absurd (omega arith)) o f
        ∙ ap (below n) (sym (first_in_union (rects_in m n) p v))

    pub union_partner_found : Found (joins_union (rects_in m n) p) 0 n o
        → o ≡ below n (union_partner (rects_in m n) p)
    unfolding union_partner
    union_partner_found =
        found_all (joins_union (rects_in m n) p) 0 n (rects_in m n) (length_rects m n) (λ k g. absurd (omega arith)) o

  -- the i-th and the p-th
  module _ (i : ℕ) where
    pub in_union_same : i ≡ p → not (eqb i p) ≡ in_union (rects_in m n) p i
    unfolding in_union
    in_union_same e = rw (eq-eqb i p e)

    pub joins_union_same : i ≡ p → not (eqb i p) ≡ joins_union (rects_in m n) p i
    unfolding joins_union
    joins_union_same e = rw (eq-eqb i p e)

    module _ (r s : Rect) (b : Bool) (g : i < n) (h : p < n) (d : i ≡ p → ⊥) (e : r ≡ rect_at m i)
        (f : s ≡ rect_at m p) where
      pub in_union_other : b ≡ within r s → b ≡ in_union (rects_in m n) p i
      unfolding in_union
      in_union_other q = rw (ne_eqb i p d, rects_at m n i g, rects_at m n p h, ← e, ← f) q

      pub joins_union_other : b ≡ joinable r s → b ≡ joins_union (rects_in m n) p i
      unfolding joins_union
      joins_union_other q = rw (ne_eqb i p d, rects_at m n i g, rects_at m n p h, ← e, ← f) q

-- the partner of the i-th, r
module _ (m : List ℕ) (n i : ℕ) (o : Option ℕ) where
  pub partner_found : (r : Rect) → i < n → r ≡ rect_at m i → Found (λ k. joinable r (rect_at m k)) (i + 1) n o
      → o ≡ below n (partner (rects_in m n) i)
  unfolding partner joins
  partner_found r h e f =
      found (joins (rects_in m n) i) (i + 1) (i + 1) n (omega arith) (λ k g l. absurd (omega arith)) o
      (found_same (λ k. joinable r (rect_at m k)) (joins (rects_in m n) i) (i + 1) n
      (λ k l. rw (rects_at m n i h, rects_at m n k l, ← e)) o f)
      ∙ ap (λ (l : ℕ). below n (first_from (joins (rects_in m n) i) (i + 1) (l - (i + 1)))) (sym (length_rects m n))

  module _ (e : o ≡ below n (partner (rects_in m n) i)) where
    pub has_none : o ≡ None → has_partner (rects_in m n) i ≡ false
    unfolding has_partner
    has_none f = let a = length_rects m n in let b = below_none _ _ o e f in le-ltb _ _ (omega arith)

    has_one : (j : ℕ) → o ≡ Some j → has_partner (rects_in m n) i ≡ true
    unfolding has_partner
    has_one j f =
        let a = length_rects m n in
        let b = below_found _ _ o e j f in
        let c = below_is _ _ o e j f in
        lt-ltb _ _ (omega arith)

-- one place more has no partner
pub passed_on : (m : List ℕ) (n from i : ℕ) (o : Option ℕ)
    → ((k : ℕ) → from ≤ k → k < i → has_partner (rects_in m n) k ≡ false)
    → o ≡ below n (partner (rects_in m n) i) → o ≡ None
    → (k : ℕ) → from ≤ k → k < i + 1 → has_partner (rects_in m n) k ≡ false
passed_on m n from i o f e q k g h = go (dec_lt k i)
  where
    go : Dec (k < i) → has_partner (rects_in m n) k ≡ false
    go (yes a) = f k g a
    go (no a) = let z : k ≡ i = omega arith in rw z (has_none m n i o e q)

-- the first two that are joinable, from a place on before which none is joinable with a later one
module _ (m : List ℕ) (n from : ℕ) (v : UnjoinedBefore (rects_in m n) from) where
  join_found : (o : Option ℕ) → Found (has_partner (rects_in m n)) from n o → o ≡ below n (first_join (rects_in m n))
  unfolding first_join
  join_found = found_all (has_partner (rects_in m n)) from n (rects_in m n) (length_rects m n) v.unjoined

  pub two_none : (i : ℕ) → ((k : ℕ) → from ≤ k → k < i → has_partner (rects_in m n) k ≡ false) → n ≤ i
      → None ≡ first_two (rects_in m n) n
  unfolding first_two
  two_none i f g = ap (option_map (with_partner (rects_in m n))) (join_found None (λ k h l. f k h (omega arith)))

  pub two_some : (i j : ℕ) (o : Option ℕ) → from ≤ i → i < n
      → ((k : ℕ) → from ≤ k → k < i → has_partner (rects_in m n) k ≡ false)
      → o ≡ below n (partner (rects_in m n) i) → o ≡ Some j
      → Some (i, j) ≡ first_two (rects_in m n) n
  unfolding first_two
  two_some i j o g h f e q =
      ap (λ (k : ℕ). Some (i, k)) (below_is _ _ o e j q)
      ∙ ap (option_map (with_partner (rects_in m n))) (join_found (Some i) (g, h, has_one m n i o e j q, f))

-- what the answer says
module _ (l : List Rect) (n : ℕ) (o : Option (ℕ × ℕ)) (e : o ≡ first_two l n) where
  pub first_none : o ≡ None → n ≤ first_join l
  unfolding first_two
  first_none f = go (below n (first_join l)) refl (sym f ∙ e)
    where
      go : (b : Option ℕ) → b ≡ below n (first_join l) → None ≡ option_map (with_partner l) b → n ≤ first_join l
      go None a q = below_none _ _ None a refl
      go (Some i) a q = absurd cc

  pub first_found : (t : ℕ × ℕ) → o ≡ Some t → (t.0 < n) × (t.0 ≡ first_join l) × (t.1 ≡ partner l t.0)
  unfolding first_two
  first_found t f = go (below n (first_join l)) refl (sym f ∙ e)
    where
      go : (b : Option ℕ) → b ≡ below n (first_join l) → Some t ≡ option_map (with_partner l) b
          → (t.0 < n) × (t.0 ≡ first_join l) × (t.1 ≡ partner l t.0)
      go None a q = absurd cc
      go (Some i) a q =
          let x : t.0 ≡ i = cc in
          let y : t.1 ≡ partner l i = cc in
          rw (x, y) (below_found _ _ (Some i) a i refl, below_is _ _ (Some i) a i refl, refl)
