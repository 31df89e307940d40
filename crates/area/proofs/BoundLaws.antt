-- The bounds of a list have its cells, so what lies outside them is lacking; the cells outside one rectangle as areas.
use mathlib.Core.Path.{◌≡◌, refl, sym, ◌∙◌}
use mathlib.Core.Bool.{Bool, true, false, ◌&&◌, ◌||◌, not, or-false, false≢true}
use mathlib.Core.List.{List, [], ◌∷◌}
use mathlib.Core.Logic.{⊎_elim}
use Prim.Native.Nat.{◌+◌, ◌≤◌}
use native.Mathlib.Omega.{arith}
use Rattle.polygons.specs.Lists.{any}
use Rattle.polygons.proofs.Booleans.{either}
use Rattle.geometry.specs.declared.rect.Cell.{Cell}
use Rattle.geometry.specs.declared.rect.Rect.{Rect}
use Rattle.geometry.specs.Cells.{has_cell, non_empty, any_has, area}
use Rattle.geometry.specs.Common.{overlap}
use Rattle.geometry.specs.Refine.{union}
use Rattle.geometry.proofs.CellLaws.{in_of, of_in, Valid, empty_has_none}
use Rattle.geometry.proofs.CommonLaws.{overlap_cells}
use Rattle.area.specs.Bounds.{bounds_from, bounds_of}
use Rattle.area.specs.CellCount.{cell_count}
use Rattle.area.specs.Lacked.{lacked}
use Rattle.area.proofs.AreaCells.{area_cells}
use Rattle.area.proofs.LackLaws.{count_same, count_none, count_split, count_le}

-- the union of two rectangles has the cells of both
union_left : (r s : Rect) (c : Cell) → has_cell r c ≡ true → has_cell (union r s) c ≡ true
unfolding union
union_left r s c t = let i = in_of r c t in of_in (union r s) c (omega arith)

union_right : (r s : Rect) (c : Cell) → has_cell s c ≡ true → has_cell (union r s) c ≡ true
unfolding union
union_right r s c t = let i = in_of s c t in of_in (union r s) c (omega arith)

-- the bounds from b on have the cells of b
from_first : (b : Rect) (l : List Rect) (c : Cell) → has_cell b c ≡ true → has_cell (bounds_from b l) c ≡ true
unfolding bounds_from
from_first b [] c t = t
from_first b (r ∷ l) c t = from_first (union b r) l c (union_left b r c t)

-- and of the list
from_rest : (b : Rect) (l : List Rect) (c : Cell) → any_has l c ≡ true → has_cell (bounds_from b l) c ≡ true
unfolding bounds_from any_has any
from_rest b [] c t = absurd (false≢true t)
from_rest b (r ∷ l) c t =
    ⊎_elim (λ u. from_first (union b r) l c (union_right b r c u)) (λ u. from_rest (union b r) l c u)
    (either (has_cell r c) (any_has l c) t)

-- the cells of a list are cells of its bounds
pub bounds_have : (p : List Rect) (c : Cell) → any_has p c ≡ true → has_cell (bounds_of p) c ≡ true
unfolding bounds_of any_has any
bounds_have [] c t = absurd (false≢true t)
bounds_have (r ∷ l) c t =
    ⊎_elim (λ u. from_first r l c u) (λ u. from_rest r l c u) (either (has_cell r c) (any_has l c) t)

-- what lies outside the bounds is lacking
pub lacked_outside : (p : List Rect) (g : Rect) → lacked (bounds_of p ∷ []) g ≤ lacked p g
unfolding lacked any_has any
lacked_outside p g =
    count_le _ _ (λ c. go (has_cell g c) (has_cell (bounds_of p) c) (any_has p c) (bounds_have p c))
  where
    go : (a b d : Bool) → (d ≡ true → b ≡ true) → a && not (b || false) ≡ true → a && not d ≡ true
    go false b d h t = t
    go true true d h t = absurd (false≢true t)
    go true false true h t = absurd (false≢true (h refl))
    go true false false h t = refl

-- the cells of g outside b
module _ (g b : Rect) where
  lacked_test : lacked (b ∷ []) g ≡ cell_count (λ c. has_cell g c && not (has_cell b c))
  unfolding lacked any
  lacked_test = count_same _ _ (λ c. rw (or-false (has_cell b c)))

  module _ (v : Valid g) where
    -- the area of g: its cells in b and those outside
    pub lacked_one : area g ≡ area (overlap g b) + lacked (b ∷ []) g
    unfolding overlap
    lacked_one =
        let s = count_split (has_cell g) (has_cell b) in
        let x = area_cells g v.x_most v.y_most in
        let y = area_cells (overlap g b) (omega arith) (omega arith) in
        let k = count_same (has_cell (overlap g b)) (λ c. has_cell g c && has_cell b c) (overlap_cells g b) in
        let l = lacked_test in
        omega arith

    -- where they share no cell all of g is outside
    pub lacked_all_lem : non_empty (overlap g b) ≡ false → area g ≡ lacked (b ∷ []) g
    lacked_all_lem e =
        let s = count_split (has_cell g) (has_cell b) in
        let x = area_cells g v.x_most v.y_most in
        let k = count_none (λ c. has_cell g c && has_cell b c)
        (λ c. sym (overlap_cells g b c) ∙ empty_has_none (overlap g b) c e) in
        let l = lacked_test in
        omega arith
