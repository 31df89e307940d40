-- The areas of the pieces of a cut: together they are the number of cells that are left, since the pieces share none.
use mathlib.Core.Path.{◌≡◌, refl, sym, ◌∙◌, ap}
use mathlib.Core.Bool.{Bool, true, false, ◌&&◌, not, cond}
use mathlib.Core.List.{List, [], ◌∷◌}
use Prim.Native.Nat.{◌+◌, ◌≤◌}
use Rattle.polygons.proofs.Booleans.{split_and}
use Rattle.geometry.specs.declared.rect.Cell.{Cell}
use Rattle.geometry.specs.declared.rect.Rect.{Rect}
use Rattle.geometry.specs.Cells.{on_grid, has_cell, valid, all_valid, any_has, area}
use Rattle.geometry.specs.Cut.{cut_all}
use Rattle.geometry.specs.Grow.{grown}
use Rattle.geometry.proofs.CellLaws.{valid_of}
use Rattle.geometry.proofs.CutLaws.{cut_all_valid}
use Rattle.geometry.proofs.GrowLaws.{grow_valid}
use Rattle.area.specs.CellCount.{sum_grid, bit, cell_count}
use Rattle.area.specs.Lacked.{lacked, extra_area}
use Rattle.area.specs.Removed.{total_area}
use Rattle.area.proofs.Sums.{grid_same, grid_add, grid_zero}
use Rattle.area.proofs.AreaCells.{area_cells}
use Rattle.area.proofs.CutCells.{times, times_cut_all}

area_sum : (r : Rect) → r.urx ≤ 65536 → r.ury ≤ 65536 → sum_grid 65536 (λ c. bit (has_cell r c)) ≡ area r
unfolding cell_count
area_sum r p q = area_cells r p q

-- the areas of a valid list: each cell as often as rectangles have it
pub total_cells : (l : List Rect) → all_valid l ≡ true → total_area l ≡ sum_grid 65536 (times l)
unfolding total_area all_valid times
total_cells [] e = sym (grid_zero 65536)
total_cells (r ∷ l) e =
    let k = split_and (valid r) (all_valid l) e in
    let v = valid_of r k.0 in
    ap (λ n. n + total_area l) (sym (area_sum r v.x_most v.y_most))
    ∙ ap (λ n. sum_grid 65536 (λ c. bit (has_cell r c)) + n) (total_cells l k.1)
    ∙ sym (grid_add 65536 (λ c. bit (has_cell r c)) (times l))

-- the cells that a polygon lacks of a rectangle: the areas of the rectangle's pieces when the polygon is cut out
pub pieces_area : (r : Rect) (p : List Rect) → valid r ≡ true → lacked p r ≡ total_area (cut_all (r ∷ []) p)
unfolding lacked cell_count all_valid times any_has
pieces_area r p e = sym
    (total_cells (cut_all (r ∷ []) p) (cut_all_valid (r ∷ []) p (rw e))
    ∙ grid_same 65536 _ _ (λ c. times_cut_all (r ∷ []) p c ∙ go (has_cell r c) (any_has p c)))
  where
    go : (a b : Bool) → cond b 0 (bit a + 0) ≡ bit (a && not b)
    go true true = refl
    go false true = refl
    go true false = refl
    go false false = refl

-- extra area by the pieces of the grown rectangle
pub extra_pieces : (p : List Rect) (r : Rect) (c : Cell) → valid r ≡ true → on_grid c ≡ true
    → extra_area p r c ≡ total_area (cut_all (grown r c ∷ []) p)
unfolding extra_area lacked
extra_pieces p r c e f = pieces_area (grown r c) p (grow_valid r c e f)
