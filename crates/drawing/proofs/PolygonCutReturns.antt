-- The cut by a polygon: the cells removed, and the ways out of the call.
use mathlib.Core.Path.{◌≡◌, refl, sym, ap, ◌∙◌}
use mathlib.Core.Bool.{Bool, true, false, ◌&&◌}
use mathlib.Core.List.{List, ◌++◌}
use mathlib.Core.Option.{Option}
use Prim.Native.Nat.{ℕ, ◌+◌, ◌*◌, ◌/◌, ◌≤◌}
use native.Mathlib.Omega.{arith}
use lib.ListN.{length, take, drop}
use lib.Seq.{take_at, drop_at}
use Rattle.polygons.specs.Limits.{most_of_polygon, most_pieces}
use Rattle.polygons.proofs.Booleans.{both, split_and}
use Rattle.geometry.specs.declared.rect.Rect.{Rect}
use Rattle.geometry.specs.Cells.{all_valid}
use Rattle.geometry.specs.Numbers.{rects_in, Appended}
use Rattle.geometry.proofs.AppendLaws.{append_count}
use Rattle.geometry.proofs.CellLaws.{valid_append}
use Rattle.geometry.proofs.NumberLaws.{length_rects, rects_take}
use Rattle.area.specs.Removed.{removed}
use Rattle.std.specs.Prelude.{Result, Ok, Err}
use Rattle.std.specs.Result.{IsErrAnd}
use Rattle.std.proofs.lemmas.Result.{err_from_is_err_and}
use Rattle.drawing.specs.declared.answer.PolygonCut.{PolygonCut}
use Rattle.drawing.specs.declared.answer.Refusal.{Refusal}
use Rattle.drawing.specs.Arguments.{given, is_list, is_result}
use Rattle.drawing.specs.Answers.{answer_of, Drawn}
use Rattle.drawing.specs.Calls.{valid_with_polygon, cut_polygon_drawn}
use Rattle.drawing.specs.PolygonCut.{with_removed, PolygonCutDrawn}
use Rattle.drawing.proofs.Returns.{list_few, list_valid}

-- an accepted list has at most its limit of rectangles
pub few_rects : (most : ℕ) (m : List ℕ) → is_list most m ≡ true → length m / 4 ≤ most
few_rects most m e = list_few most m true (sym e) refl

-- an accepted polygon fits a working list
pub polygon_fits_lem : (polygon : List ℕ) → is_list most_of_polygon polygon ≡ true → length (given polygon) ≤ 16
polygon_fits_lem polygon f =
    let a = few_rects most_of_polygon polygon f in let b = length_rects polygon (length polygon / 4) in omega arith

-- behind it there is room for an accepted list
module _ (list polygon w₀ w₁ : List ℕ) (k : ℕ) (f : is_list most_of_polygon polygon ≡ true)
    (u : Appended w₀ 0 (given polygon) (length (given polygon)) w₁ k) where
  pub polygon_count : k ≤ 16
  polygon_count = let a = polygon_fits_lem polygon f in let b = u.few in omega arith

  pub list_fits : length w₀ ≡ 1088 → is_list most_pieces list ≡ true → 4 * (k + length (given list)) ≤ length w₁
  list_fits z g =
      let a = polygon_count in
      let b = few_rects most_pieces list g in
      let c = length_rects list (length list / 4) in
      let d = u.same_length in
      omega arith

  pub both_fit : length w₀ ≡ 1088 → is_list most_pieces list ≡ true → (w₂ : List ℕ) (m : ℕ)
      → Appended w₁ k (given list) (length (given list)) w₂ m → 4 * (k + length list / 4) ≤ length w₂
  both_fit z g w₂ m w =
      let a = list_fits z g in
      let c = length_rects list (length list / 4) in
      let d = w.same_length in
      omega arith

-- a polygon and a list, written one behind the other to a working list
module _ (list polygon w₀ w₁ w₂ : List ℕ) (k m : ℕ)
    (u : Appended w₀ 0 (given polygon) (length (given polygon)) w₁ k)
    (w : Appended w₁ k (given list) (length (given list)) w₂ m) where
  in_polygon : rects_in w₁ k ≡ given polygon
  unfolding rects_in
  in_polygon = u.list

  in_both : rects_in w₂ (k + length list / 4) ≡ given polygon ++ given list
  in_both =
      let e : m ≡ k + length list / 4 =
      append_count w₁ k _ _ w₂ m w ∙ ap (λ x. k + x) (length_rects list (length list / 4)) in
      ap (rects_in w₂) (sym e) ∙ w.list ∙ ap (λ l. l ++ given list) in_polygon

  pub both_valid : is_list most_of_polygon polygon ≡ true → is_list most_pieces list ≡ true
      → all_valid (rects_in w₂ (k + length list / 4)) ≡ true
  both_valid f g =
      ap all_valid in_both ∙ valid_append (given polygon) (given list)
      ∙ both _ _ (list_valid most_of_polygon polygon f) (list_valid most_pieces list g)

  pub both_removed : (r : ℕ) → r ≡ removed (drop k (rects_in w₂ (k + length list / 4))) (rects_in w₂ k)
      → r ≡ removed (given list) (given polygon)
  both_removed r e =
      let h : length (given polygon) ≡ k = ap length (sym in_polygon) ∙ length_rects w₁ k in
      let a : rects_in w₂ k ≡ given polygon =
      sym (rects_take w₂ (k + length list / 4) k (omega arith)) ∙ ap (take k) in_both
      ∙ take_at (given polygon) (given list) k h in
      let b : drop k (rects_in w₂ (k + length list / 4)) ≡ given list =
      ap (drop k) in_both ∙ drop_at (given polygon) (given list) k h in
      e ∙ rw (a, b)

-- the call, from the answer of the cut
module _ (list polygon out : List ℕ) (a : Result ℕ Refusal) (out' : List ℕ)
    (d : Drawn (valid_with_polygon list polygon out) (cut_polygon_drawn list polygon) out a out') where
  cut_drawn_lem : (x : Result PolygonCut Refusal) → x ≡ with_removed a (removed (given list) (given polygon))
      → PolygonCutDrawn list polygon out x out'
  cut_drawn_lem x e = record {
    answer = e ∙ ap (λ (y : Result ℕ Refusal). with_removed y (removed (given list) (given polygon))) d.answer;
    result = d.result;
  }

  pub cut_refused : (r : Refusal) (x : Result PolygonCut Refusal) → a ≡ Err r → IsErrAnd x (λ y. y ≡ r)
      → PolygonCutDrawn list polygon out x out'
  unfolding with_removed
  cut_refused r x e v = let p = err_from_is_err_and x v in cut_drawn_lem x (rw (p.1, p.2, e))

  module _ (n : ℕ) (e : a ≡ Ok n) where
    pub cut_wrote : (cells : ℕ) → cells ≡ removed (given list) (given polygon)
        → PolygonCutDrawn list polygon out (Ok (record { rects = n; removed = cells })) out'
    unfolding with_removed
    cut_wrote cells f = cut_drawn_lem (Ok (record { rects = n; removed = cells })) (rw (e, f))

    -- the arguments of an accepted cut are valid
    accepted : (v : Bool) (l : Option (List Rect)) → Ok n ≡ answer_of v l → v ≡ true
    unfolding answer_of
    accepted true l f = refl
    accepted false l f = absurd cc

    valid_arguments : is_result out && is_list most_pieces list && is_list most_of_polygon polygon ≡ true
    unfolding valid_with_polygon
    valid_arguments = accepted _ _ (sym e ∙ d.answer)

    pub wrote_list : is_list most_pieces list ≡ true
    wrote_list = (split_and (is_result out) (is_list most_pieces list)
        (split_and (is_result out && is_list most_pieces list) (is_list most_of_polygon polygon) valid_arguments).0).1

    pub wrote_polygon : is_list most_of_polygon polygon ≡ true
    wrote_polygon =
        (split_and (is_result out && is_list most_pieces list) (is_list most_of_polygon polygon) valid_arguments).1
