-- Taking a rectangle out, joining two, a step of refine, and the loop of steps.
use mathlib.Core.Path.{◌≡◌, refl, sym, ◌∙◌, ap}
use mathlib.Core.Bool.{true, false}
use mathlib.Core.List.{List}
use Prim.Native.Nat.{ℕ, zero, suc, ◌+◌, ◌*◌, ◌-◌, ◌≤◌, ◌<◌, min, max}
use native.Mathlib.Omega.{arith}
use native.Mathlib.Decide.{dec_lt}
use borrow.Author.Tests.{lt-ltb, le-ltb}
use lib.Dec.{ltb}
use Rattle.std.specs.Prelude.{Option, None, Some}
use Rattle.std.specs.List.{CopiedTo, SameBelow}
use lib.ListN.{length, get_or, set}
use lib.Seq.{ext_get_or}
use Rattle.geometry.specs.declared.rect.Rect.{Rect}
use Rattle.geometry.specs.Cells.{no_rect}
use Rattle.geometry.specs.Numbers.{rect_at, rects_in, put_at}
use Rattle.geometry.specs.Refine.{contained, dropped, union, first_contained, first_join, refine_step, refine_steps, refine}
use Rattle.geometry.proofs.NumberLaws.{length_rects, length_put, rects_at, put_inside}
use Rattle.geometry.proofs.RefineLaws.{length_dropped, stays}
use Rattle.refinement.specs.declared.refine.Search.{Search}
use Rattle.refinement.specs.declared.refine.Search.TheVariants.{Contained, Union}
use Rattle.refinement.specs.Changes.{Dropped, Joined, Refined}
use Rattle.refinement.specs.Search.{below, first_two, union_partner, place_without, UncontainedBefore, UnjoinedBefore, AfterJoin, NextPair, Known, Shortened, Finished, Stepped}
use Rattle.refinement.proofs.FirstLaws.{first_before}
use Rattle.refinement.proofs.FindLaws.{below_none, below_found, below_is, first_none, first_found}
use Rattle.refinement.proofs.DropLaws.{contained_dropped, dropped_low, dropped_high}
use Rattle.refinement.proofs.SearchLaws.{union_uncontained, after_join_dropped, after_join, first_pair, union_partner_before, union_partner_after, union_partner_none}

-- the numbers behind the i-th rectangle, copied four places down
module _ (m : List ℕ) (n i : ℕ) (m' : List ℕ) (h : i < n) (below : SameBelow m m' (4 * i))
    (copied : CopiedTo m m' (4 * (i + 1)) (4 * i) (4 * n - 4 * (i + 1))) where
  low : (j : ℕ) → j < i → rect_at m' j ≡ rect_at m j
  unfolding rect_at
  low j g = rw (
    below (4 * j) 0 (omega arith),
    below (4 * j + 1) 0 (omega arith),
    below (4 * j + 2) 0 (omega arith),
    below (4 * j + 3) 0 (omega arith),
  )

  at : (c k x y : ℕ) → c < 4 → i ≤ k → k < n - 1 → x ≡ 4 * k + c → y ≡ 4 * (k + 1) + c → get_or m' x 0 ≡ get_or m y 0
  at c k x y g a b s t =
      let e : 4 * (i + 1) + (x - 4 * i) ≡ y = omega arith in
      copied x 0 (omega arith) (omega arith) ∙ ap (λ (z : ℕ). get_or m z 0) e

  high : (j : ℕ) → i ≤ j → j < n - 1 → rect_at m' j ≡ rect_at m (j + 1)
  unfolding rect_at
  high j g k = rw (
    at 0 j (4 * j) (4 * (j + 1)) (omega arith) g k (omega arith) (omega arith),
    at 1 j (4 * j + 1) (4 * (j + 1) + 1) (omega arith) g k refl refl,
    at 2 j (4 * j + 2) (4 * (j + 1) + 2) (omega arith) g k refl refl,
    at 3 j (4 * j + 3) (4 * (j + 1) + 3) (omega arith) g k refl refl,
  )

  pub moved_down : length m' ≡ length m → Dropped m n i m'
  moved_down t =
      let l = rects_in m n in
      let a : length l ≡ n = length_rects m n in
      let g : i < length l = omega arith in
      let b : length (dropped l i) + 1 ≡ length l = length_dropped l i g in
      let c : length (rects_in m' (n - 1)) ≡ n - 1 = length_rects m' (n - 1) in
      record {
        list = ext_get_or no_rect (rects_in m' (n - 1)) (dropped l i) (omega arith) (λ j d.
            let s : j < n - 1 = omega arith in
            rects_at m' (n - 1) j s ∙ place j s g (dec_lt j i));
        same_length = t;
      }
    where
      place : (j : ℕ) → j < n - 1 → i < length (rects_in m n) → Dec (j < i)
          → rect_at m' j ≡ get_or (dropped (rects_in m n) i) j no_rect
      place j s g (yes c) = low j c ∙ sym (dropped_low (rects_in m n) i j g c ∙ rects_at m n j (omega arith))
      place j s g (no c) =
          high j (omega arith) s
          ∙ sym (dropped_high (rects_in m n) i j g (omega arith) ∙ rects_at m n (j + 1) (omega arith))

-- two rectangles are joined
pub joined_is : (m : List ℕ) (n i j : ℕ) (r s u : Rect) (m₁ m₂ : List ℕ) → i < j → j < n → 4 * n ≤ length m
    → r ≡ rect_at m i → s ≡ rect_at m j → u ≡ union r s → m₁ ≡ put_at m i u → Dropped m₁ n j m₂ → Joined m n i j m₂
joined_is m n i j r s u m₁ m₂ g h k e f q t v =
    let a : rects_in m₁ n ≡ set (rects_in m n) i u = rw t (put_inside m n i u (omega arith) k) in
    let b : u ≡ union (get_or (rects_in m n) i no_rect) (get_or (rects_in m n) j no_rect) =
    rw (rects_at m n i (omega arith), rects_at m n j h, ← e, ← f) q in
    record {
      list = v.list ∙ rw (a, b);
      same_length = v.same_length ∙ rw (t, length_put m i u);
    }

-- a contained rectangle is dropped
module _ (m : List ℕ) (n i : ℕ) (m' : List ℕ) (o : Option ℕ) (found : o ≡ below n (first_contained (rects_in m n)))
    (is : o ≡ Some i) (v : Dropped m n i m') where
  h : i < n
  h = below_found _ _ o found i is

  e : i ≡ first_contained (rects_in m n)
  e = below_is _ _ o found i is

  drop_list : rects_in m' (n - 1) ≡ refine_step (rects_in m n)
  unfolding refine_step
  drop_list =
      let a = length_rects m n in
      let u = h in
      let f = e in
      let g : first_contained (rects_in m n) < length (rects_in m n) = omega arith in
      let k : ltb (first_contained (rects_in m n)) (length (rects_in m n)) ≡ true = lt-ltb _ _ g in
      v.list ∙ rw (k, e)

  -- the search for a contained one goes on there
  pub step_drop : Stepped m n (Some (Contained i)) m'
  unfolding first_contained
  step_drop =
      let l = rects_in m n in
      let before : (j : ℕ) → j < i → contained l j ≡ false =
      λ j g. first_before (contained l) 0 (length l) j (omega arith) (rw e at g) in
      let u = h in
      let a = length_rects m n in
      let b = length_rects m' (n - 1) in
      record {
        some = omega (arith, h);
        list = drop_list;
        known = record {
          high = omega arith;
          uncontained = λ j g. rw v.list (contained_dropped l i j g (omega arith) (before j g));
        };
        same_length = v.same_length;
      }

  -- after a join, what is known stays known, with the places moved
  pub step_union_drop : (p from q f : ℕ) → AfterJoin (rects_in m n) p from → q ≡ place_without p i
      → f ≡ place_without from i
      → Stepped m n (Some (Union q f)) m'
  step_union_drop p from q f w a b =
      let l = rects_in m n in
      let c = length_rects m n in
      let u = h in
      let f = e in
      let g : first_contained l < length l = omega arith in
      record {
        some = omega (arith, h);
        list = drop_list;
        known = rw (v.list, a, b)
            (after_join_dropped l p from i w (omega arith) (λ z. union_uncontained l p w.only g (sym e ∙ z)));
        same_length = v.same_length;
      }

-- the next pair is joined
pub step_join : (m : List ℕ) (n i j from f : ℕ) (m' : List ℕ) → NextPair (rects_in m n) i j from → Joined m n i j m'
    → f ≡ place_without from j
    → Stepped m n (Some (Union i f)) m'
unfolding refine_step
step_join m n i j from f m' w v b =
    let l = rects_in m n in
    let c : ltb (first_contained l) (length l) ≡ false = le-ltb _ _ w.none_contained in
    let g : i < length l = omega (arith, w.after, w.inside) in
    let k : ltb (first_join l) (length l) ≡ true = rw (← w.first) (lt-ltb _ _ g) in
    record {
      some = omega (arith, g, length_rects m n);
      list = v.list ∙ rw (c, k, ← w.first, ← w.second);
      known = rw (v.list, b) (after_join l i j from w);
      same_length = v.same_length;
    }

-- no step applies
pub step_done : (m : List ℕ) (n from : ℕ) (o : Option (ℕ × ℕ)) (s : Option Search) → UnjoinedBefore (rects_in m n) from
    → o ≡ first_two (rects_in m n) n → o ≡ None → s ≡ None → Stepped m n s m
unfolding refine_step
step_done m n from o s v e h q =
    let l = rects_in m n in
    let c : ltb (first_contained l) (length l) ≡ false = le-ltb _ _ v.none_contained in
    let k : ltb (first_join l) (length l) ≡ false = rw (length_rects m n) (le-ltb _ _ (first_none (rects_in m n) n o e h)) in
    rw q (record { none_applies = rw (c, k); same = refl })

-- what the calls of a step require
module _ (m : List ℕ) (n : ℕ) where
  pub pair_after : (i j from : ℕ) → NextPair (rects_in m n) i j from → i < j
  pair_after i j from v = v.after

  pub pair_inside : (i j from : ℕ) → NextPair (rects_in m n) i j from → j < n
  pair_inside i j from v = let e = length_rects m n in omega (arith, v.inside)

  pub pair_first : (from i j : ℕ) (o : Option (ℕ × ℕ)) → UnjoinedBefore (rects_in m n) from
      → o ≡ first_two (rects_in m n) n → o ≡ Some (i, j)
      → NextPair (rects_in m n) i j i
  pair_first from i j o v e f =
      let a = length_rects m n in
      let w = first_found (rects_in m n) n o e (i, j) f in
      first_pair (rects_in m n) i j v.none_contained w.1 w.2 (omega (arith, w.0))

  -- none is contained in another
  module _ (o : Option ℕ) (e : o ≡ below n (first_contained (rects_in m n))) (h : o ≡ None) where
    none : length (rects_in m n) ≤ first_contained (rects_in m n)
    none = let a = length_rects m n in let b = below_none _ _ o e h in omega arith

    pub join_anew : UnjoinedBefore (rects_in m n) 0
    join_anew = record { high = omega arith; none_contained = none; unjoined = λ k g. absurd (omega arith) }

    module _ (p from : ℕ) (q : Option ℕ) (v : AfterJoin (rects_in m n) p from)
        (f : q ≡ below n (union_partner (rects_in m n) p)) where
      pub join_on : q ≡ None → UnjoinedBefore (rects_in m n) from
      join_on g =
          let a = length_rects m n in
          let b = below_none _ _ q f g in
          union_partner_none (rects_in m n) p from (union_partner (rects_in m n) p) v none refl (omega arith)

      pub pair_union : (j x y : ℕ) → q ≡ Some j → x ≡ min j p → y ≡ max j p → NextPair (rects_in m n) x y from
      pair_union j x y g s t = go (dec_lt j p)
        where
          inside : j < length (rects_in m n)
          inside = let a = length_rects m n in let b = below_found _ _ q f j g in omega arith

          go : Dec (j < p) → NextPair (rects_in m n) x y from
          go (yes a) =
              let u : x ≡ j = omega arith in
              let w : y ≡ p = omega arith in
              rw (u, w) (union_partner_before (rects_in m n) p from j v none (below_is _ _ q f j g) a)
          go (no a) =
              let u : x ≡ p = omega arith in
              let w : y ≡ j = omega arith in
              rw (u, w) (union_partner_after (rects_in m n) p from j v none (below_is _ _ q f j g) inside (omega arith))

-- what is known in each case
module _ (l : List Rect) (s : Search) (v : Known l s) where
  pub known_contained : (from : ℕ) → s ≡ Contained from → UncontainedBefore l from
  known_contained from e = rw e at v

  pub known_union : (p from : ℕ) → s ≡ Union p from → AfterJoin l p from
  known_union p from e = rw e at v

-- after a step, a step less is left to do; on no rectangles there is none
one_done : (m m' : List ℕ) (k : ℕ) → rects_in m' (k - 1) ≡ refine_step (rects_in m k)
    → refine_steps k (rects_in m k) ≡ refine_steps (k - 1) (rects_in m' (k - 1))
unfolding refine_steps rects_in
one_done m m' zero e = refl
one_done m m' (suc k) e =
    let f : suc k - 1 ≡ k = omega arith in
    sym (ap (λ (j : ℕ). refine_steps j (rects_in m' (suc k - 1))) f ∙ ap (refine_steps k) e)

-- What is left to do is as many steps on the first k rectangles as there are.
pub record Refining (m₀ : List ℕ) (n : ℕ) (m : List ℕ) (k : ℕ) (s : Search) : Type 0 where
  pub few : k ≤ n
  pub fits : 4 * k ≤ length m
  pub same_length : length m ≡ length m₀
  pub known : Known (rects_in m k) s
  pub list : refine (rects_in m₀ n) ≡ refine_steps k (rects_in m k)

pub refining_start : (m : List ℕ) (n : ℕ) → 4 * n ≤ length m → Refining m n m n (Contained 0)
unfolding refine
refining_start m n h = record {
  few = omega arith;
  fits = h;
  same_length = refl;
  known = record { high = omega arith; uncontained = λ j g. absurd (omega arith) };
  list = rw (length_rects m n);
}

module _ (m₀ : List ℕ) (n : ℕ) (m : List ℕ) (k : ℕ) (t : Search) (v : Refining m₀ n m k t) where
  module _ (s : Option Search) (m' : List ℕ) (w : Stepped m k s m') where
    shortened : (i : Search) → s ≡ Some i → Shortened m k i m'
    shortened i e = rw e at w

    pub refining_again : (i : Search) → s ≡ Some i → Refining m₀ n m' (k - 1) i
    refining_again i e =
        let z = shortened i e in
        record {
          few = omega (arith, v.few);
          fits = rw z.same_length (omega (arith, v.fits));
          same_length = z.same_length ∙ v.same_length;
          known = z.known;
          list = v.list ∙ one_done m m' k z.list;
        }

    pub refining_stop : s ≡ None → Refined m₀ n m' k
    refining_stop e =
        let z : Finished m k m' = rw e at w in
        record {
          list = rw z.same (sym (v.list ∙ stays k (rects_in m k) z.none_applies));
          fewer = v.few;
          same_length = rw z.same v.same_length;
        }
