-- What a search through the pairs of a list tells: which two can be joined, and where no step applies.
use mathlib.Core.Path.{◌≡◌, sym, ◌∙◌, ap}
use mathlib.Core.Bool.{Bool, true, false}
use mathlib.Core.List.{List}
use mathlib.Core.Logic.{⊎_elim}
use Prim.Native.Nat.{ℕ, ◌+◌, ◌≤◌, ◌<◌}
use native.Mathlib.Omega.{arith}
use native.Mathlib.Decide.{dec_lt}
use borrow.Author.Tests.{ltb-true, lt-ltb}
use lib.Dec.{ltb}
use lib.ListN.{length, get_or, set, length-set}
use lib.Seq.{get_or-set_other}
use Rattle.polygons.proofs.Booleans.{is_false, not_both, neither}
use Rattle.geometry.specs.declared.rect.Rect.{Rect}
use Rattle.geometry.specs.Cells.{no_rect}
use Rattle.geometry.specs.Refine.{within, contained, first_contained, dropped, joinable, union, joins, partner, first_join, joined, refine_step, refine}
use Rattle.geometry.proofs.RefineLaws.{length_dropped, length_joined, join_found, contained_found, stays}
use Rattle.refinement.specs.Pairs.{nested, near, Apart, Clear, OthersApart}
use Rattle.refinement.proofs.FirstLaws.{contained_none, partner_is, first_join_is}
use Rattle.refinement.proofs.DropLaws.{refine_of_step, side, dropped_low, dropped_high}

-- what is known of a pair that is not near
module _ (r s : Rect) where
  pub near_nested : near r s ≡ false → nested r s ≡ false
  unfolding near
  near_nested e = (neither (nested r s) (joinable r s) e).0

  near_joinable : near r s ≡ false → joinable r s ≡ false
  unfolding near
  near_joinable e = (neither (nested r s) (joinable r s) e).1

  nested_first : nested r s ≡ false → within r s ≡ false
  unfolding nested
  nested_first e = (neither (within s r) (within r s) e).1

  nested_second : nested r s ≡ false → within s r ≡ false
  unfolding nested
  nested_second e = (neither (within s r) (within r s) e).0

  -- the tests of a pair, one after another
  module _ (a b : Bool) (e : a ≡ within s r) (f : b ≡ within r s) (g : a ≡ false) (h : b ≡ false) where
    pub not_nested : nested r s ≡ false
    unfolding nested
    not_nested = rw (← e, ← f, g, h)

    pub not_near : (c : Bool) → c ≡ joinable r s → c ≡ false → near r s ≡ false
    unfolding near
    not_near c k m = rw (not_nested, ← k, m)

module _ (l : List Rect) (i : ℕ) where
  pub apart_nested : Apart near l i → Apart nested l i
  apart_nested v = record { apart = λ a b g h k. near_nested _ _ (v.apart a b g h k) }

  pub clear_nested : (j : ℕ) → Clear near l i j → Clear nested l i j
  clear_nested j v = record { rows = apart_nested v.rows; row = λ b g h. near_nested _ _ (v.row b g h) }

-- dropping a later rectangle leaves no two near each other that were not
pub apart_dropped : (q : Rect → Rect → Bool) (l : List Rect) (i c : ℕ) → i ≤ c → c < length l → Apart q l i
    → Apart q (dropped l c) i
apart_dropped q l i c g h v = record {
  apart = λ a b k m n. rw (dropped_low l c a h (omega arith)) (go a b k m n (dec_lt b c));
}
  where
    go : (a b : ℕ) → a < i → a < b → b < length (dropped l c) → Dec (b < c)
        → q (get_or l a no_rect) (get_or (dropped l c) b no_rect) ≡ false
    go a b k m n (yes e) = rw (dropped_low l c b h e) (v.apart a b k m (omega arith))
    go a b k m n (no e) =
        let z = length_dropped l c h in
        rw (dropped_high l c b h (omega arith)) (v.apart a (b + 1) k (omega arith) (omega arith))

-- after a join, only the union can be near an earlier rectangle that was near no later one
pub others_joined : (l : List Rect) (i j : ℕ) → i < j → j < length l → Apart near l i → OthersApart (joined l i j) i
others_joined l i j g h v = record { apart = λ a b x y z d. rw (low a x) (go a b x y z d (dec_lt b j)) }
  where
    inside : j < length (set l i (union (get_or l i no_rect) (get_or l j no_rect)))
    inside = rw length-set h

    low : (a : ℕ) → a < i → get_or (joined l i j) a no_rect ≡ get_or l a no_rect
    low a x = dropped_low _ j a inside (omega arith) ∙ get_or-set_other l i a _ no_rect (λ z. omega arith)

    go : (a b : ℕ) → a < i → a < b → b < length (joined l i j) → (b ≡ i → ⊥) → Dec (b < j)
        → near (get_or l a no_rect) (get_or (joined l i j) b no_rect) ≡ false
    go a b x y z d (yes e) =
        rw (dropped_low _ j b inside e, get_or-set_other l i b (union (get_or l i no_rect) (get_or l j no_rect)) no_rect d)
        (v.apart a b x y (omega arith))
    go a b x y z d (no e) =
        let n = length_joined l i j h in
        let k : b + 1 ≡ i → ⊥ = λ t. omega arith in
        let u = union (get_or l i no_rect) (get_or l j no_rect) in
        rw (dropped_high _ j b inside (omega arith), get_or-set_other l i (b + 1) u no_rect k)
        (v.apart a (b + 1) x (omega arith) (omega arith))

-- no two are nested
module _ (l : List Rect) (v : Apart nested l (length l)) where
  none_contained : (k : ℕ) → k < length l → contained l k ≡ false
  none_contained k g = contained_none l k g (λ j h d. ⊎_elim
      (λ a. nested_first _ _ (v.apart k j g a h))
      (λ a. nested_second _ _ (v.apart j k h a g))
      (side k j d))

  no_drop : ltb (first_contained l) (length l) ≡ false
  no_drop = is_false _ (λ e.
      let h : first_contained l < length l = ltb-true _ _ e in
      not_both _ (contained_found l h) (none_contained (first_contained l) h))

  -- the first pair that is joinable is joined
  module _ (i j : ℕ) (w : Clear near l i j) (g : i < j) (h : j < length l) (e : joins l i j ≡ true) where
    second_is : partner l i ≡ j
    unfolding joins
    second_is = partner_is l i j g h e (λ x a b. near_joinable _ _ (w.row x a b))

    first_is : first_join l ≡ i
    unfolding joins
    first_is = first_join_is l i j g h second_is (λ x y a b c. near_joinable _ _ (w.rows.apart x y a b c))

    pub refine_joined : refine (joined l i j) ≡ refine l
    unfolding refine_step
    refine_joined =
        let k : ltb (first_join l) (length l) ≡ true = rw first_is (lt-ltb i (length l) (omega arith)) in
        let s : refine_step l ≡ joined l i j = rw (no_drop, k, first_is, second_is) in
        ap refine (sym s) ∙ refine_of_step l

-- where no two are near, no step applies
pub refine_apart : (l : List Rect) → Apart near l (length l) → refine l ≡ l
unfolding refine refine_step
refine_apart l v =
    let k : ltb (first_join l) (length l) ≡ false = is_false _ (λ e.
    let h : first_join l < length l = ltb-true _ _ e in
    let p = join_found l h in
    not_both _ p.fits (near_joinable _ _ (v.apart _ (partner l (first_join l)) h p.after p.inside))) in
    let s : refine_step l ≡ l = rw (no_drop l (apart_nested l (length l) v), k) in
    stays (length l) l s
