-- The returns of the calls: each refusal, and an accepted result.
use mathlib.Core.Path.{◌≡◌, refl, sym, ◌∙◌, ap}
use mathlib.Core.Bool.{Bool, true, false, ◌&&◌}
use mathlib.Core.List.{List, [], ◌∷◌, ◌++◌}
use mathlib.Core.Option.{Option, none, some}
use Prim.Native.Nat.{ℕ, ◌*◌, ◌/◌, ◌%◌, ◌≤◌}
use native.Mathlib.Omega.{arith}
use borrow.Author.Tests.{eqb-true, leb-true}
use lib.Dec.{leb, eqb}
use lib.ListN.{length, take, drop}
use lib.Seq.{length-take-le, length_front, take_at}
use Rattle.polygons.specs.Limits.{most_of_polygon, most_pieces}
use Rattle.polygons.proofs.LimitLaws.{at_most_some}
use Rattle.polygons.proofs.Booleans.{all4, split_and}
use Rattle.polygons.proofs.ListLaws.{length_flat_map}
use Rattle.geometry.specs.declared.rect.Rect.{Rect}
use Rattle.geometry.specs.declared.polygon.Polygon.{Polygon}
use Rattle.geometry.specs.declared.cut.TooMany as G
use Rattle.geometry.specs.Cells.{valid, all_valid}
use Rattle.geometry.specs.Common.{common_with, common_parts}
use Rattle.geometry.specs.Cut.{cut_limited, common_limited}
use Rattle.geometry.specs.Numbers.{rects_in, rects_of, numbers_of, counted, Written, PolygonOf}
use Rattle.geometry.specs.Refine.{refine}
use Rattle.geometry.proofs.CommonLaws.{common_with_length}
use Rattle.geometry.proofs.NumberLaws.{length_rects, rects_prefix, numbers_take}
use Rattle.refinement.specs.Changes.{Refined}
use Rattle.std.specs.Prelude.{Result, Ok, Err, ⊤}
use Rattle.std.specs.Result.{IsErrAnd}
use Rattle.std.proofs.lemmas.Result.{err_from_is_err_and}
use Rattle.drawing.specs.declared.answer.Refusal.{Refusal}
use Rattle.drawing.specs.declared.answer.Refusal.TheVariants.{Invalid, TooMany}
use Rattle.drawing.specs.Arguments.{given, is_list, is_result, accepted}
use Rattle.drawing.specs.Answers.{answer_of, result_of, Drawn, RefinedInto}
use Rattle.drawing.specs.Calls.{valid_alone}
use Rattle.drawing.proofs.Accepted.{is_true, handed_on}

-- an accepted list has at most its limit of rectangles
pub list_few : (most : ℕ) (m : List ℕ) (b : Bool) → b ≡ is_list most m → b ≡ true → length m / 4 ≤ most
unfolding is_list
list_few most m b e f =
    leb-true (length m / 4) most
    (all4 (eqb (length m % 4) 0) (leb 1 (length m / 4)) (leb (length m / 4) most) (all_valid (given m)) (sym e ∙ f)).2

-- and all of them are valid
pub list_valid : (most : ℕ) (m : List ℕ) → is_list most m ≡ true → all_valid (given m) ≡ true
unfolding is_list
list_valid most m e =
    (all4 (eqb (length m % 4) 0) (leb 1 (length m / 4)) (leb (length m / 4) most) (all_valid (given m)) e).3

-- what a call promises, from whether its arguments are valid
module _ (valid? : Bool) (limited : Option (List Rect)) (out : List ℕ) where
  refused : valid? ≡ false → (r : Result ℕ Refusal) → r ≡ Err Invalid → Drawn valid? limited out r out
  unfolding answer_of result_of
  refused e r f = rw (e, f) (record { answer = refl; result = refl; count = tt })

  over : valid? ≡ true → limited ≡ none → Drawn valid? limited out (Err TooMany) out
  unfolding answer_of result_of
  over e z = rw (e, z) (record { answer = refl; result = refl; count = tt })

  pub wrote : (l : List Rect) (m : ℕ) (out' : List ℕ) → valid? ≡ true → limited ≡ some l → m ≡ length l → m ≤ 256
      → out' ≡ numbers_of l ++ drop (4 * m) out → Drawn valid? limited out (Ok m) out'
  unfolding answer_of result_of
  wrote l m out' e z p q r = rw (e, z) (record { answer = ap Ok p; result = r ∙ rw p; count = q })

  module _ (w₀ w : List ℕ) (k : Result ℕ G.TooMany) (e : valid? ≡ true) (v : Written w₀ limited k w) where
    -- the refusal is handed on
    counted_over : (y : G.TooMany) → k ≡ Err y → (r : Result ℕ Refusal) → IsErrAnd r (λ z. z ≡ TooMany)
        → Drawn valid? limited out r out
    unfolding counted
    counted_over y f r z = let p = err_from_is_err_and r z in rw (p.1, p.2) (over e (sym (rw f at v.list)))

    counted_wrote : (m : ℕ) (out' : List ℕ) → k ≡ Ok m → length w₀ ≡ 1088
        → out' ≡ take (4 * m) w ++ drop (4 * m) out → Drawn valid? limited out (Ok m) out'
    unfolding counted
    counted_wrote m out' f g r =
        let q : m ≤ 256 = rw f at v.few in
        let s = v.same_length in
        wrote (rects_in w m) m out' e (sym (rw f at v.list)) (sym (length_rects w m)) q
        (r ∙ rw (numbers_take w m (omega arith)))

-- where the list and the result list are accepted
module _ (list out : List ℕ) (a : Result ⊤ Refusal) (e : a ≡ accepted (valid_alone list out)) (f : a ≡ Ok tt) where
  both_lists : is_result out && is_list most_pieces list ≡ true
  unfolding valid_alone
  both_lists = is_true _ a e f

  pub out_long : length out ≡ 1024
  unfolding is_result
  out_long = eqb-true (length out) 1024 (split_and (is_result out) (is_list most_pieces list) both_lists).0

  pub list_short : length list / 4 ≤ 256
  list_short =
      list_few most_pieces list true (sym (split_and (is_result out) (is_list most_pieces list) both_lists).1) refl

-- a refusal of the list or the result list, where no third argument is tested and where one is
module _ (list out : List ℕ) (a : Result ⊤ Refusal) (e : a ≡ accepted (valid_alone list out)) (r : Result ℕ Refusal)
    (x : Refusal) (f : a ≡ Err x) (v : IsErrAnd r (λ y. y ≡ x)) (limited : Option (List Rect)) where
  pub lists_refused : Drawn (is_result out && is_list most_pieces list) limited out r out
  unfolding valid_alone
  lists_refused = let s = handed_on _ a e r x f v in refused _ limited out s.0 r s.1

  pub first_refused : (third : Bool) → Drawn (is_result out && is_list most_pieces list && third) limited out r out
  unfolding valid_alone
  first_refused third = let s = handed_on _ a e r x f v in refused _ limited out (rw s.0) r s.1

-- a third argument is tested
module _ (list out : List ℕ) (third : Bool) (limited : Option (List Rect)) (a : Result ⊤ Refusal)
    (e : a ≡ accepted (valid_alone list out)) (f : a ≡ Ok tt) (b : Result ⊤ Refusal) (d : Bool) (h : d ≡ third)
    (g : b ≡ accepted d) where
  pub third_refused : (r : Result ℕ Refusal) (x : Refusal) → b ≡ Err x → IsErrAnd r (λ y. y ≡ x)
      → Drawn (is_result out && is_list most_pieces list && third) limited out r out
  third_refused r x q v =
      let s = handed_on d b g r x q v in
      refused _ limited out (rw (both_lists list out a e f, ← h, s.0)) r s.1

  module _ (k : b ≡ Ok tt) where
    pub valid_three : is_result out && is_list most_pieces list && third ≡ true
    valid_three = rw (both_lists list out a e f, ← h, is_true d b g k)

    module _ (w₀ w : List ℕ) (c : Result ℕ G.TooMany) (v : Written w₀ limited c w) where
      pub three_over : (y : G.TooMany) → c ≡ Err y → (r : Result ℕ Refusal) → IsErrAnd r (λ z. z ≡ TooMany)
          → Drawn (is_result out && is_list most_pieces list && third) limited out r out
      three_over = counted_over _ limited out w₀ w c valid_three v

      pub three_wrote : (m : ℕ) (out' : List ℕ) → c ≡ Ok m → length w₀ ≡ 1088
          → out' ≡ take (4 * m) w ++ drop (4 * m) out
          → Drawn (is_result out && is_list most_pieces list && third) limited out (Ok m) out'
      three_wrote = counted_wrote _ limited out w₀ w c valid_three v

-- refining through a working list
pub refined_into : (list work work₁ work₂ out out' : List ℕ) (n m : ℕ) → 4 * n ≤ length list → 4 * n ≤ length work
    → work₁ ≡ take (4 * n) list ++ drop (4 * n) work
    → Refined work₁ n work₂ m → out' ≡ take (4 * m) work₂ ++ drop (4 * m) out → RefinedInto list n out m out'
refined_into list work work₁ work₂ out out' n m g h e r f =
    let a : length (take (4 * n) list) ≡ 4 * n = length-take-le (4 * n) list g in
    let b : length (take (4 * n) work) ≡ 4 * n = length-take-le (4 * n) work h in
    let s : length work₁ ≡ length work = rw e (length_front work (take (4 * n) list) (4 * n) (a ∙ sym b)) in
    let t : rects_in work₁ n ≡ rects_in list n = rects_prefix list work₁ n (rw e (take_at _ _ _ a)) in
    let u : rects_in work₂ m ≡ refine (rects_in list n) = r.list ∙ ap refine t in
    let v = r.fewer in
    let x = r.same_length in
    record {
      result = f ∙ rw (← u, numbers_take work₂ m (omega arith));
      count = sym (length_rects work₂ m) ∙ ap length u;
      fewer = v;
    }

-- a list refined
pub refine_wrote : (list out : List ℕ) (a : Result ⊤ Refusal) → a ≡ accepted (valid_alone list out) → a ≡ Ok tt → (m : ℕ)
    (out' : List ℕ) → RefinedInto list (length list / 4) out m out'
    → Drawn (is_result out && is_list most_pieces list) (some (refine (given list))) out (Ok m) out'
refine_wrote list out a e f m out' r =
    let l = list_short list out a e f in
    let v = r.fewer in
    wrote _ _ out _ m out' (both_lists list out a e f) refl r.count (omega arith) r.result

-- the common parts of a list with one rectangle: never over the limit
module _ (list out : List ℕ) (r : Rect) (a : Result ⊤ Refusal) (e : a ≡ accepted (valid_alone list out)) (f : a ≡ Ok tt)
    (b : Result ⊤ Refusal) (d : Bool) (h : d ≡ valid r) (g : b ≡ accepted d) (k : b ≡ Ok tt) (p : Polygon)
    (o : PolygonOf (r ∷ []) p) (w₀ w : List ℕ) (c : Result ℕ G.TooMany)
    (v : Written w₀ (common_limited (given list) (rects_of p)) c w) where
  no_more : common_limited (given list) (rects_of p) ≡ some (common_parts (given list) (r ∷ []))
  unfolding common_limited common_parts common_with
  no_more =
      let t = length_flat_map (common_with (r ∷ [])) (given list) (λ q. common_with_length (r ∷ []) q) in
      let l = list_short list out a e f in
      let n = length_rects list (length list / 4) in
      rw o.list (at_most_some 256 (common_parts (given list) (r ∷ [])) (omega arith))

  drawn : Written w₀ (some (common_parts (given list) (r ∷ []))) c w
  drawn = rw no_more at v

  pub common_over : (y : G.TooMany) → c ≡ Err y → (s : Result ℕ Refusal) → IsErrAnd s (λ z. z ≡ TooMany)
      → Drawn (is_result out && is_list most_pieces list && valid r) (some (common_parts (given list) (r ∷ []))) out s out
  common_over = three_over list out (valid r) _ a e f b d h g k w₀ w c drawn

  pub common_wrote : (m : ℕ) (out' : List ℕ) → c ≡ Ok m → length w₀ ≡ 1088
      → out' ≡ take (4 * m) w ++ drop (4 * m) out
      → Drawn (is_result out && is_list most_pieces list && valid r) (some (common_parts (given list) (r ∷ []))) out
      (Ok m) out'
  common_wrote = three_wrote list out (valid r) _ a e f b d h g k w₀ w c drawn

-- a working list that an accepted list was copied to
pub work_long : (list w₀ w₁ : List ℕ) → length list / 4 ≤ 256 → length w₀ ≡ 1088
    → w₁ ≡ take (4 * (length list / 4)) list ++ drop (4 * (length list / 4)) w₀ → length w₁ ≡ 1088
work_long list w₀ w₁ l z q =
    let n = length list / 4 in
    let a : length (take (4 * n) list) ≡ 4 * n = length-take-le (4 * n) list (omega arith) in
    let s : length (take (4 * n) w₀) ≡ 4 * n = length-take-le (4 * n) w₀ (omega arith) in
    rw q (length_front w₀ (take (4 * n) list) (4 * n) (a ∙ sym s)) ∙ z

-- a list cut by a polygon, through a working list
module _ (list polygon out : List ℕ) (a : Result ⊤ Refusal) (e : a ≡ accepted (valid_alone list out)) (f : a ≡ Ok tt)
    (b : Result ⊤ Refusal) (d : Bool) (h : d ≡ is_list most_of_polygon polygon) (g : b ≡ accepted d) (k : b ≡ Ok tt)
    (p : Polygon) (o : PolygonOf (given polygon) p) (w₀ w₁ w₂ : List ℕ) (z : length w₀ ≡ 1088)
    (q : w₁ ≡ take (4 * (length list / 4)) list ++ drop (4 * (length list / 4)) w₀)
    (c : Result ℕ G.TooMany) (v : Written w₁ (cut_limited (rects_in w₁ (length list / 4)) (rects_of p)) c w₂) where
  loaded : rects_in w₁ (length list / 4) ≡ given list
  loaded =
      let n = length list / 4 in
      let a : length (take (4 * n) list) ≡ 4 * n = length-take-le (4 * n) list (omega arith) in
      rects_prefix list w₁ n (rw q (take_at _ _ _ a))

  cut_drawn_lem : Written w₁ (cut_limited (given list) (given polygon)) c w₂
  cut_drawn_lem = rw (loaded, o.list) at v

  pub polygon_over : (y : G.TooMany) → c ≡ Err y → (s : Result ℕ Refusal) → IsErrAnd s (λ z. z ≡ TooMany)
      → Drawn (is_result out && is_list most_pieces list && is_list most_of_polygon polygon)
      (cut_limited (given list) (given polygon)) out s out
  polygon_over = three_over list out (is_list most_of_polygon polygon) _ a e f b d h g k w₁ w₂ c cut_drawn_lem

  pub polygon_wrote : (m : ℕ) (out' : List ℕ) → c ≡ Ok m → out' ≡ take (4 * m) w₂ ++ drop (4 * m) out
      → Drawn (is_result out && is_list most_pieces list && is_list most_of_polygon polygon)
      (cut_limited (given list) (given polygon)) out (Ok m) out'
  polygon_wrote m out' s t =
      three_wrote list out (is_list most_of_polygon polygon) _ a e f b d h g k w₁ w₂ c cut_drawn_lem m out' s
      (work_long list w₀ w₁ (list_short list out a e f) z q) t
