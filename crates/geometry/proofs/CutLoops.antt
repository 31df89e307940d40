-- Cutting a list in place by one rectangle, and the loop over a polygon's rectangles.
use mathlib.Core.Path.{◌≡◌, refl, sym, ◌∙◌, ap}
use mathlib.Core.Bool.{Bool, false}
use mathlib.Core.List.{List, [], ◌∷◌, ◌++◌, flat_map}
use mathlib.Core.Option.{Option, some, bind}
use Prim.Native.Nat.{ℕ, ◌+◌, ◌*◌, ◌≤◌, ◌<◌}
use native.Mathlib.Omega.{arith}
use native.Mathlib.Numerals.{add-one}
use Rattle.std.proofs.Common.{Result, Ok, Err}
use Rattle.std.specs.Result.{IsErr}
use lib.ListN.{length, take, drop, get_or, drop_of_length-le}
use lib.Seq.{drop-cons, length_front, take_at, length-take-le}
use Rattle.polygons.specs.Limits.{at_most, most_pieces}
use Rattle.polygons.specs.Lists.{any}
use Rattle.polygons.specs.Rules.{cut_each}
use Rattle.polygons.proofs.LimitLaws.{at_most_some}
use Rattle.polygons.proofs.Booleans.{neither}
use Rattle.geometry.specs.declared.rect.Rect.{Rect}
use Rattle.geometry.specs.declared.cut.TooMany.{TooMany}
use Rattle.geometry.specs.Common.{shares_with}
use Rattle.geometry.specs.Cut.{cut_list, cut_limited}
use Rattle.geometry.specs.Numbers.{rects_in, counted, Written}
use Rattle.geometry.proofs.CutLaws.{uncut}
use Rattle.geometry.proofs.NumberLaws.{length_rects, rects_prefix}

-- the error that `?` hands on is the only one there is
pub any_error : {m : List ℕ} {limited : Option (List Rect)} {m' : List ℕ} (r : Result ℕ TooMany) (x : TooMany) → IsErr r → Written m limited (Err x) m' → Written m limited r m'
any_error (Ok n) x h w = absurd cc
any_error (Err y) x h w = w

-- a list of which no rectangle shares a cell with s stays as it is
uncut_list : (l : List Rect) (s : Rect) → any (shares_with s) l ≡ false → cut_list l s ≡ l
unfolding any shares_with cut_list flat_map
uncut_list [] s e = refl
uncut_list (r ∷ l) s e =
    let f = neither (shares_with s r) (any (shares_with s) l) e in
    let ih = uncut_list l s f.1 in
    rw (uncut r s f.0, ih)

pub uncut_written : (m : List ℕ) (n : ℕ) (s : Rect) (b : Bool) → n ≤ 256 → b ≡ any (shares_with s) (rects_in m n) → b ≡ false
    → Written m (at_most most_pieces (cut_list (rects_in m n) s)) (Ok n) m
unfolding counted
uncut_written m n s b h e f =
    let l : length (rects_in m n) ≤ 256 = rw (length_rects m n) h in
    record {
      list = rw (uncut_list (rects_in m n) s (sym e ∙ f)) (sym (at_most_some 256 (rects_in m n) l));
      few = h;
      same_length = refl;
    }

module _ (limited : Option (List Rect)) (k : Result ℕ TooMany) (spare₀ spare : List ℕ) (w : Written spare₀ limited k spare) where
  -- the list is over its limit, and nothing was written
  pub over_written : (x : TooMany) → k ≡ Err x → (r : Result ℕ TooMany) → IsErr r → (m : List ℕ) → Written m limited r m
  unfolding counted
  over_written x e r h m = any_error r x h (record { list = rw e at w.list; few = tt; same_length = refl })

  module _ (n : ℕ) (e : k ≡ Ok n) where
    pub few_of_lem : n ≤ 256
    few_of_lem = rw e at w.few

    -- the pieces are copied back
    pub copied : (m : List ℕ) → 1088 ≤ length spare₀ → 1088 ≤ length m → (m' : List ℕ) → m' ≡ take (4 * n) spare ++ drop (4 * n) m → Written m limited (Ok n) m'
    unfolding counted
    copied m g h m' f =
        let few = few_of_lem in
        let q = w.same_length in
        let a : length (take (4 * n) spare) ≡ 4 * n = length-take-le (4 * n) spare (omega arith) in
        let b : length (take (4 * n) m) ≡ 4 * n = length-take-le (4 * n) m (omega arith) in
        let t : take (4 * n) m' ≡ take (4 * n) spare = rw f (take_at _ _ _ a) in
        let s : some (rects_in spare n) ≡ limited = rw e at w.list in
        record {
          list = ap some (rects_prefix spare m' n t) ∙ s;
          few = few;
          same_length = rw f (length_front m (take (4 * n) spare) (4 * n) (a ∙ sym b));
        }

-- The first i rectangles of a list have cut the pieces; the others are left to do.
pub record Cutting (m₀ : List ℕ) (n : ℕ) (l : List Rect) (spare₀ m spare : List ℕ) (c i : ℕ) : Type 0 where
  pub few : c ≤ 256
  pub room : 1088 ≤ length m
  pub same_length : length m ≡ length m₀
  pub spare_room : 1088 ≤ length spare
  pub spare_length : length spare ≡ length spare₀
  pub rest : cut_limited (rects_in m₀ n) l ≡ cut_limited (rects_in m c) (drop i l)

pub cutting_start : (m : List ℕ) (n : ℕ) (l : List Rect) (spare : List ℕ) → n ≤ 256 → 1088 ≤ length m → 1088 ≤ length spare → Cutting m n l spare m spare n 0
cutting_start m n l spare a g h = record {
  few = a;
  room = g;
  same_length = refl;
  spare_room = h;
  spare_length = refl;
  rest = refl;
}

module _ (m₀ : List ℕ) (n : ℕ) (l : List Rect) (spare₀ m spare : List ℕ) (c i : ℕ) (v : Cutting m₀ n l spare₀ m spare c i) where
  pub cutting_end : length l ≤ i → Written m₀ (cut_limited (rects_in m₀ n) l) (Ok c) m
  unfolding counted cut_each cut_list
  cutting_end h = record { list = sym (v.rest ∙ rw (drop_of_length-le l h)); few = v.few; same_length = v.same_length }

  module _ (d : Rect) (a : Result ℕ TooMany) (m' : List ℕ) (h : i < length l) (w : Written m (at_most most_pieces (cut_list (rects_in m c) (get_or l i d))) a m') where
    next : cut_limited (rects_in m₀ n) l ≡ bind (counted a m') (λ k. cut_limited k (drop (i + 1) l))
    unfolding cut_each cut_list
    next = v.rest ∙ rw (add-one, drop-cons l i d h, w.list)

    pub cutting_over : (e : TooMany) → a ≡ Err e → (r : Result ℕ TooMany) → IsErr r → Written m₀ (cut_limited (rects_in m₀ n) l) r m'
    unfolding counted bind
    cutting_over x e r h = any_error r x h (record { list = sym (next ∙ rw e); few = tt; same_length = w.same_length ∙ v.same_length })

    pub cutting_again : (spare' : List ℕ) (left : ℕ) → a ≡ Ok left → length spare' ≡ length spare → Cutting m₀ n l spare₀ m' spare' left (i + 1)
    unfolding counted bind
    cutting_again spare' left e f = record {
      few = rw e at w.few;
      room = rw w.same_length v.room;
      same_length = w.same_length ∙ v.same_length;
      spare_room = rw f v.spare_room;
      spare_length = f ∙ v.spare_length;
      rest = next ∙ rw e;
    }
