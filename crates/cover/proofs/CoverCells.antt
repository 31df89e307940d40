-- A rectangle is covered exactly where its cells are the list's; a list is inside another exactly where its cells are the other's; two are
-- apart exactly where they share no cell.
use mathlib.Core.Path.{◌≡◌, refl, sym, ap, ◌∙◌}
use mathlib.Core.Bool.{true, false, ◌&&◌, ◌||◌, not, or-false, false≢true}
use mathlib.Core.List.{List, [], ◌∷◌, ◌++◌, flat_map, append-nil}
use mathlib.Core.Logic.{⊎_elim}
use native.Mathlib.Omega.{arith}
use borrow.Author.Tests.{not-false, not-true}
use Rattle.polygons.specs.Lists.{any}
use Rattle.polygons.proofs.Booleans.{is_false, not_both, either, or_left, or_right, both, split_and}
use Rattle.geometry.specs.declared.rect.Cell.{Cell}
use Rattle.geometry.specs.declared.rect.Rect.{Rect}
use Rattle.geometry.specs.Cells.{has_cell, non_empty, valid, all_valid, any_has}
use Rattle.geometry.specs.Common.{overlap, shares_with}
use Rattle.geometry.specs.Cut.{cut, cut_list, cut_all}
use Rattle.geometry.proofs.CellLaws.{of_some, in_of, corner, corner_in, valid_some}
use Rattle.geometry.proofs.CommonLaws.{overlap_cells, common_some}
use Rattle.geometry.proofs.CutLaws.{cut_list_cons, cut_list_append, cut_all_cells, cut_all_valid}
use Rattle.cover.specs.Tests.{all_pass, is_none, covered_by, inside_of, apart}

none_is : {A : Type 0} (l : List A) → is_none l ≡ true → l ≡ []
unfolding is_none
none_is [] e = refl
none_is (a ∷ l) e = absurd (false≢true e)

-- the cells left of a rectangle
remaining_cells : (p : List Rect) (r : Rect) (c : Cell) → any_has (cut_all (r ∷ []) p) c ≡ has_cell r c && not (any_has p c)
unfolding any_has any
remaining_cells p r c = cut_all_cells (r ∷ []) p c ∙ rw or-false

-- a covered rectangle's cells are cells of the polygon
pub covered_cells : (p : List Rect) (r : Rect) → covered_by p r ≡ true → (c : Cell) → has_cell r c ≡ true → any_has p c ≡ true
unfolding covered_by any_has any
covered_cells p r e c h =
    let n : cut_all (r ∷ []) p ≡ [] = none_is _ e in
    not-false _ (rw h at (sym (remaining_cells p r c) ∙ ap (λ l. any_has l c) n))

-- a valid rectangle whose cells are cells of the polygon is covered
pub cells_covered : (p : List Rect) (r : Rect) → valid r ≡ true → ((c : Cell) → has_cell r c ≡ true → any_has p c ≡ true) → covered_by p r ≡ true
unfolding covered_by all_valid is_none any_has any
cells_covered p r v h = go (cut_all (r ∷ []) p) (cut_all_valid (r ∷ []) p (both _ _ v refl)) (remaining_cells p r)
  where
    go : (l : List Rect) → all_valid l ≡ true → ((c : Cell) → any_has l c ≡ has_cell r c && not (any_has p c)) → is_none l ≡ true
    go [] w k = refl
    go (s ∷ l) w k =
        let c = corner s in
        let t : has_cell s c ≡ true = corner_in s (valid_some s (split_and (valid s) (all_valid l) w).0) in
        let b = split_and (has_cell r c) (not (any_has p c)) (sym (k c) ∙ or_left _ _ t) in
        absurd (not_both _ (h c b.0) (not-true _ b.1))

cut_none : (p : List Rect) → cut_all [] p ≡ []
unfolding cut_all cut_list flat_map
cut_none [] = refl
cut_none (s ∷ p) = cut_none p

cut_all_append : (l k p : List Rect) → cut_all (l ++ k) p ≡ cut_all l p ++ cut_all k p
unfolding cut_all
cut_all_append l k [] = refl
cut_all_append l k (s ∷ p) = ap (λ j. cut_all j p) (cut_list_append l k s) ∙ cut_all_append (cut_list l s) (cut_list k s) p

none_append : {A : Type 0} (l k : List A) → is_none (l ++ k) ≡ is_none l && is_none k
unfolding is_none
none_append [] k = refl
none_append (a ∷ l) k = refl

-- nothing is left of a list exactly if each of its rectangles is covered
pub covered_list : (p l : List Rect) → is_none (cut_all l p) ≡ all_pass (covered_by p) l
unfolding covered_by all_pass is_none
covered_list p [] = ap is_none (cut_none p)
covered_list p (r ∷ l) =
    ap is_none (cut_all_append (r ∷ []) l p) ∙ none_append (cut_all (r ∷ []) p) (cut_all l p) ∙ ap (λ b. is_none (cut_all (r ∷ []) p) && b) (covered_list p l)

-- no rectangle is covered by an empty list
pub covered_none : (r : Rect) → covered_by [] r ≡ false
unfolding covered_by cut_all is_none
covered_none r = refl

-- a rectangle is covered exactly if the pieces of its cut by the first are covered by the others
pub covered_cons : (s : Rect) (p : List Rect) (r : Rect) → covered_by (s ∷ p) r ≡ all_pass (covered_by p) (cut r s)
unfolding covered_by cut_all cut_list flat_map
covered_cons s p r = ap (λ l. is_none (cut_all l p)) (cut_list_cons r [] s ∙ append-nil (cut r s)) ∙ covered_list p (cut r s)

-- the cells of a list inside a polygon are the polygon's
pub inside_cells : (p q : List Rect) → inside_of p q ≡ true → (c : Cell) → any_has q c ≡ true → any_has p c ≡ true
unfolding inside_of all_pass any_has any
inside_cells p [] e c h = absurd (false≢true h)
inside_cells p (r ∷ q) e c h =
    let k = split_and (covered_by p r) (inside_of p q) e in
    ⊎_elim (covered_cells p r k.0 c) (inside_cells p q k.1 c) (either _ _ h)

-- a valid list whose cells are the polygon's is inside it
pub cells_inside : (p q : List Rect) → all_valid q ≡ true → ((c : Cell) → any_has q c ≡ true → any_has p c ≡ true) → inside_of p q ≡ true
unfolding inside_of all_pass any_has any all_valid
cells_inside p [] v h = refl
cells_inside p (r ∷ q) v h =
    let k = split_and (valid r) (all_valid q) v in
    both _ _ (cells_covered p r k.0 (λ c e. h c (or_left _ _ e))) (cells_inside p q k.1 (λ c e. h c (or_right (has_cell r c) _ e)))

-- a rectangle that has a cell is not empty
has_some : (r : Rect) (c : Cell) → has_cell r c ≡ true → non_empty r ≡ true
has_some r c h = let i = in_of r c h in of_some r (omega arith)

-- a rectangle that shares no cell with any of a list has no cell of the list
none_shares_lem : (r : Rect) (q : List Rect) → any (shares_with r) q ≡ false → (c : Cell) → has_cell r c ≡ true → any_has q c ≡ true → ⊥
unfolding any shares_with any_has
none_shares_lem r [] e c h k = false≢true k
none_shares_lem r (s ∷ q) e c h k = ⊎_elim
    (λ t. not_both (non_empty (overlap s r) || any (shares_with r) q) (or_left _ _ (some_shared t)) e)
    (λ t. none_shares_lem r q (is_false _ (λ u. not_both _ (or_right (non_empty (overlap s r)) _ u) e)) c h t)
    (either _ _ k)
  where
    some_shared : has_cell s c ≡ true → non_empty (overlap s r) ≡ true
    some_shared t = has_some (overlap s r) c (overlap_cells s r c ∙ both _ _ t h)

-- polygons that pass the test share no cell
pub apart_cells : (p q : List Rect) → apart p q ≡ true → (c : Cell) → any_has p c ≡ true → any_has q c ≡ true → ⊥
unfolding apart all_pass any_has any
apart_cells [] q e c h k = false≢true h
apart_cells (r ∷ p) q e c h k =
    let b = split_and (not (any (shares_with r) q)) (apart p q) e in
    ⊎_elim (λ t. none_shares_lem r q (not-true _ b.0) c t k) (λ t. apart_cells p q b.1 c t k) (either _ _ h)

-- a rectangle without a cell of the list shares no cell with any of it
shares_none : (r : Rect) (q : List Rect) → ((c : Cell) → has_cell r c ≡ true → any_has q c ≡ true → ⊥) → any (shares_with r) q ≡ false
unfolding any shares_with any_has
shares_none r [] h = refl
shares_none r (s ∷ q) h = is_false _ λ e. ⊎_elim
    (λ t. let k = common_some s r t in h (corner (overlap s r)) k.1 (or_left _ _ k.0))
    (λ t. not_both _ t (shares_none r q (λ c a b. h c a (or_right (has_cell s c) _ b))))
    (either _ _ e)

-- polygons that share no cell pass the test
pub cells_apart : (p q : List Rect) → ((c : Cell) → any_has p c ≡ true → any_has q c ≡ true → ⊥) → apart p q ≡ true
unfolding apart all_pass any_has any
cells_apart [] q h = refl
cells_apart (r ∷ p) q h = both _ _
    (ap not (shares_none r q (λ c a b. h c (or_left _ _ a) b)))
    (cells_apart p q (λ c a b. h c (or_right (has_cell r c) _ a) b))
