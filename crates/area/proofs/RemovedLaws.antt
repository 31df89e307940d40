-- The cells that a polygon removes from a list: no more than the grid has; from one rectangle its area less those of the
-- pieces of the cut.
use mathlib.Core.Path.{◌≡◌, sym, ◌∙◌, ap}
use mathlib.Core.Bool.{true, ◌&&◌, not, or-false}
use mathlib.Core.List.{List, [], ◌∷◌}
use Prim.Native.Nat.{◌+◌, ◌-◌, ◌≤◌}
use native.Mathlib.Omega.{arith}
use Rattle.polygons.specs.Lists.{any}
use Rattle.geometry.specs.declared.rect.Rect.{Rect}
use Rattle.geometry.specs.Cells.{has_cell, valid, any_has, area}
use Rattle.geometry.specs.Cut.{cut_all}
use Rattle.geometry.proofs.CellLaws.{valid_of}
use Rattle.area.specs.CellCount.{cell_count}
use Rattle.area.specs.Lacked.{lacked}
use Rattle.area.specs.Removed.{removed, total_area}
use Rattle.area.proofs.AreaCells.{area_cells}
use Rattle.area.proofs.LackLaws.{count_same, count_split, count_bound}
use Rattle.area.proofs.CutAreas.{pieces_area}

-- no more cells than the grid has
pub removed_bound : (l p : List Rect) → removed l p ≤ 4294967296
unfolding removed
removed_bound l p = count_bound _

-- a rectangle's cells are those that a polygon removes and those that it lacks
pub removed_one : (r : Rect) (p : List Rect) → valid r ≡ true → area r ≡ removed (r ∷ []) p + lacked p r
unfolding removed lacked any_has any
removed_one r p e =
    let v = valid_of r e in
    sym (area_cells r v.x_most v.y_most) ∙ count_split (has_cell r) (any_has p)
    ∙ ap (λ n. n + cell_count (λ c. has_cell r c && not (any_has p c))) (count_same _ _ (λ c. rw (or-false (has_cell r c))))

-- so of one rectangle they are its area less those of the pieces of the cut, which share no cell
pub removed_by_areas : (r : Rect) (p : List Rect) → valid r ≡ true
    → area r - total_area (cut_all (r ∷ []) p) ≡ removed (r ∷ []) p
removed_by_areas r p e = let a = pieces_area r p e in let b = removed_one r p e in omega arith
