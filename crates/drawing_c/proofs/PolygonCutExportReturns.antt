-- The cut by a polygon: the ways out of its form for C.
use mathlib.Core.Path.{◌≡◌, refl, sym, ◌∙◌}
use mathlib.Core.Bool.{Bool, true, false, ◌&&◌}
use mathlib.Core.List.{List}
use mathlib.Core.Option.{Option, none, some}
use Prim.Native.Nat.{ℕ, ◌/◌, ◌≤◌}
use native.Mathlib.Omega.{arith}
use lib.ListN.{length}
use Rattle.polygons.specs.Limits.{most_of_polygon, most_pieces}
use Rattle.polygons.proofs.Booleans.{split_and}
use Rattle.geometry.specs.declared.rect.Rect.{Rect}
use Rattle.geometry.specs.Cut.{cut_limited}
use Rattle.geometry.proofs.CutLaws.{cut_limited_length}
use Rattle.geometry.proofs.NumberLaws.{length_rects}
use Rattle.drawing.specs.declared.answer.PolygonCut.{PolygonCut}
use Rattle.std.specs.Prelude.{Result, Ok, Err}
use Rattle.drawing.specs.declared.answer.Refusal.{Refusal}
use Rattle.drawing.specs.Arguments.{given, is_list, is_result}
use Rattle.drawing.specs.Answers.{answer_of}
use Rattle.drawing.specs.Calls.{valid_with_polygon, cut_polygon_drawn}
use Rattle.drawing.specs.PolygonCut.{with_removed, polygon_cut_answer, PolygonCutDrawn}
use Rattle.drawing_c.specs.Exports.{refusal_number, PolygonCutExported}
use Rattle.drawing.proofs.PolygonCutReturns.{few_rects}

-- an accepted cut wrote at most 256 rectangles
few_of_lem : (v : Bool) (o : Option (List Rect)) (cells : ℕ) (c : PolygonCut)
    → ((l : List Rect) → v ≡ true → o ≡ some l → length l ≤ 256)
    → Ok c ≡ with_removed (answer_of v o) cells → c.rects ≤ 256
unfolding with_removed answer_of
few_of_lem true (some l) cells c h e =
    let s : c.rects ≡ length l = cc in
    let b = h l refl refl in
    omega arith
few_of_lem true none cells c h e = absurd cc
few_of_lem false o cells c h e = absurd cc

-- the form for C, from the answer a and the result list at exit
module _ (list polygon out : List ℕ) (a : Result PolygonCut Refusal) (out' : List ℕ)
    (d : PolygonCutDrawn list polygon out a out') where
  module _ (c : PolygonCut) (e : a ≡ Ok c) where
    pub few_written : c.rects ≤ 256
    unfolding valid_with_polygon cut_polygon_drawn
    few_written = few_of_lem (is_result out && is_list most_pieces list && is_list most_of_polygon polygon)
        (cut_limited (given list) (given polygon)) _ c
        (λ l v o. cut_limited_length (given list) (given polygon) l (few v) o) (sym e ∙ d.answer)
      where
        few : is_result out && is_list most_pieces list && is_list most_of_polygon polygon ≡ true
            → length (given list) ≤ 256
        few v =
            let f = (split_and (is_result out && is_list most_pieces list) (is_list most_of_polygon polygon) v).0 in
            let b = few_rects most_pieces list (split_and (is_result out) (is_list most_pieces list) f).1 in
            let n = length_rects list (length list / 4) in
            omega arith

    pub wrote_exported : (written cells : ℕ) → PolygonCutExported list polygon out written cells 0 out' c.rects c.removed
    wrote_exported written cells =
        let q : Ok c ≡ polygon_cut_answer list polygon out = sym e ∙ d.answer in
        record { refusal = rw (← q); result = d.result; written_told = rw (← q); removed_told = rw (← q) }

  pub refused_exported : (r : Refusal) (n written cells : ℕ) → a ≡ Err r → n ≡ refusal_number r
      → PolygonCutExported list polygon out written cells n out' written cells
  refused_exported r n written cells e f =
      let q : Err r ≡ polygon_cut_answer list polygon out = sym e ∙ d.answer in
      record { refusal = rw (← q) f; result = d.result; written_told = rw (← q); removed_told = rw (← q) }
