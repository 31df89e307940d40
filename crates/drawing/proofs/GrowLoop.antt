-- Growing each rectangle of a list, and the extra area of one.
use mathlib.Core.Path.{◌≡◌, refl, sym, ◌∙◌, ap}
use mathlib.Core.Bool.{Bool, true, ◌&&◌}
use mathlib.Core.List.{List, [], ◌∷◌, ◌++◌, map, map-append}
use Prim.Native.Nat.{ℕ, ◌+◌, ◌*◌, ◌/◌, ◌≤◌, ◌<◌}
use native.Mathlib.Omega.{arith}
use lib.ListN.{length, drop, take-append-drop, length-map}
use lib.Seq.{drop-drop}
use Rattle.polygons.specs.Limits.{most_pieces}
use Rattle.geometry.specs.declared.rect.Rect.{Rect}
use Rattle.geometry.specs.declared.rect.Cell.{Cell}
use Rattle.geometry.specs.Cells.{on_grid, valid}
use Rattle.geometry.specs.Grow.{grown}
use Rattle.geometry.specs.Numbers.{rect_at, rects_in, put_at, numbers_of}
use Rattle.geometry.proofs.NumberLaws.{length_rects, rects_suc, length_put, put_behind, put_rest, numbers_take}
use Rattle.area.specs.Lacked.{extra_area}
use Rattle.std.specs.Prelude.{Result, Ok, Err, ⊤}
use Rattle.std.specs.Result.{IsErrAnd}
use Rattle.drawing.specs.declared.answer.Refusal.{Refusal}
use Rattle.drawing.specs.Arguments.{given, is_list, is_result, accepted}
use Rattle.drawing.specs.Answers.{Drawn, extra_of}
use Rattle.drawing.specs.Calls.{grown_to, grow_drawn, valid_alone, valid_extra, extra_drawn}
use Rattle.drawing.proofs.Accepted.{is_true, handed_on}
use Rattle.drawing.proofs.Returns.{list_short, valid_three, wrote}

-- The first i of n rectangles are written, grown; the numbers behind them are as they were.
pub record Growing (list : List ℕ) (n : ℕ) (c : Cell) (out₀ out : List ℕ) (i : ℕ) : Type 0 where
  pub i_le : i ≤ n
  pub fits : 4 * n ≤ length list
  pub room : 4 * n ≤ length out
  pub same_length : length out ≡ length out₀
  pub done : rects_in out i ≡ map (grown_to c) (rects_in list i)
  pub rest : drop (4 * i) out ≡ drop (4 * i) out₀

pub grow_start : (list : List ℕ) (n : ℕ) (c : Cell) (out : List ℕ) → 4 * n ≤ length list → 4 * n ≤ length out
    → Growing list n c out out 0
unfolding rects_in
grow_start list n c out g h = record {
  i_le = omega arith;
  fits = g;
  room = h;
  same_length = refl;
  done = refl;
  rest = refl;
}

module _ (list : List ℕ) (n : ℕ) (c : Cell) (out₀ out : List ℕ) (i : ℕ) (v : Growing list n c out₀ out i) where
  pub grow_again : (r g : Rect) (out' : List ℕ) → i < n → r ≡ rect_at list i → g ≡ grown r c → out' ≡ put_at out i g
      → Growing list n c out₀ out' (i + 1)
  unfolding grown_to
  grow_again r g out' h e f q =
      let a : 4 * (i + 1) ≡ 4 * i + 4 = omega arith in
      let k : 4 * i + 4 ≤ length out = omega (arith, v.room) in
      rw q (record {
        i_le = omega arith;
        fits = v.fits;
        room = rw (length_put out i g) v.room;
        same_length = length_put out i g ∙ v.same_length;
        done = put_behind out i g k ∙ rw (v.done, f, e, rects_suc list i, map-append);
        rest = rw (a, put_rest out i g) (sym (drop-drop 4 (4 * i) out) ∙ ap (drop 4) v.rest ∙ drop-drop 4 (4 * i) out₀);
      })

  pub grow_end : n ≤ i → out ≡ numbers_of (map (grown_to c) (rects_in list n)) ++ drop (4 * n) out₀
  grow_end h =
      let e : i ≡ n = omega (arith, v.i_le) in
      let a : rects_in out n ≡ map (grown_to c) (rects_in list n) = rw e at v.done in
      let b : drop (4 * n) out ≡ drop (4 * n) out₀ = rw e at v.rest in
      sym (take-append-drop (4 * n) out) ∙ rw (← numbers_take out n v.room, a, b)

-- the answer of grow
module _ (list out : List ℕ) (c : Cell) (a : Result ⊤ Refusal) (e : a ≡ accepted (valid_alone list out)) (f : a ≡ Ok tt)
    (b : Result ⊤ Refusal) (d : Bool) (h : d ≡ on_grid c) (g : b ≡ accepted d) (k : b ≡ Ok tt) where
  pub on_grid_is : on_grid c ≡ true
  on_grid_is = sym h ∙ is_true d b g k

  pub grow_wrote : (out' : List ℕ)
      → out' ≡ numbers_of (map (grown_to c) (rects_in list (length list / 4))) ++ drop (4 * (length list / 4)) out
      → Drawn (is_result out && is_list most_pieces list && on_grid c) (grow_drawn list c) out (Ok (length list / 4)) out'
  unfolding grow_drawn
  grow_wrote out' q =
      let l = list_short list out a e f in
      let m : length list / 4 ≡ length (map (grown_to c) (given list)) =
      sym (length-map (given list) (grown_to c) ∙ length_rects list (length list / 4)) in
      wrote _ _ out _ _ out' (valid_three list out (on_grid c) (grow_drawn list c) a e f b d h g k) refl m (omega arith) q

-- the answer of the extra area
module _ (r : Rect) (c : Cell) (a : Result ⊤ Refusal) (b : Bool) (e : b ≡ valid r) (f : a ≡ accepted b) where
  pub unfit_rect : (s : Result ℕ Refusal) (x : Refusal) → a ≡ Err x → IsErrAnd s (λ y. y ≡ x)
      → s ≡ extra_of (valid_extra r c) (extra_drawn r c)
  unfolding valid_extra extra_of
  unfit_rect s x g v = let t = handed_on b a f s x g v in rw (← e, t.0) t.1

  module _ (g : a ≡ Ok tt) where
    pub fit_rect : valid r ≡ true
    fit_rect = sym e ∙ is_true b a f g

    module _ (k : Result ⊤ Refusal) (d : Bool) (h : d ≡ on_grid c) (l : k ≡ accepted d) where
      pub unfit_cell : (s : Result ℕ Refusal) (x : Refusal) → k ≡ Err x → IsErrAnd s (λ y. y ≡ x)
          → s ≡ extra_of (valid_extra r c) (extra_drawn r c)
      unfolding valid_extra extra_of
      unfit_cell s x m v = let t = handed_on d k l s x m v in rw (fit_rect, ← h, t.0) t.1

      pub fit_cell : k ≡ Ok tt → on_grid c ≡ true
      fit_cell m = sym h ∙ is_true d k l m

      pub fit : (n : ℕ) → k ≡ Ok tt → n ≡ extra_area (r ∷ []) r c → Ok n ≡ extra_of (valid_extra r c) (extra_drawn r c)
      unfolding valid_extra extra_drawn extra_of
      fit n m q = rw (fit_rect, fit_cell m, q)
