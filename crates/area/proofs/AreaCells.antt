-- 'area counts cells'.
use mathlib.Core.Path.{◌≡◌, refl, ◌∙◌, ap}
use mathlib.Core.Bool.{Bool, true, false, ◌&&◌, cond}
use Prim.Native.Nat.{ℕ, ◌*◌, ◌-◌, ◌≤◌, min}
use native.Mathlib.Nat.{mul-one}
use native.Mathlib.Omega.{arith}
use lib.Dec.{leb, ltb}
use Rattle.geometry.specs.declared.rect.Rect.{Rect}
use Rattle.geometry.specs.Cells.{has_cell, area}
use Rattle.area.specs.CellCount.{sum_to, sum_grid, bit, cell_count}
use Rattle.area.proofs.Sums.{sum_same, sum_zero, sum_range}

-- a rectangle that ends within the grid has as many cells as its area
pub area_cells : (r : Rect) → r.urx ≤ 65536 → r.ury ≤ 65536 → cell_count (has_cell r) ≡ area r
unfolding cell_count sum_grid has_cell area
area_cells r p q =
    let a : min 65536 r.urx - r.llx ≡ r.urx - r.llx = omega arith in
    sum_same 65536 _ _ (λ x l. row x) ∙ sum_range 65536 r.llx r.urx (r.ury - r.lly) ∙ ap (λ k. k * (r.ury - r.lly)) a
  where
    inner : (b : Bool) (y : ℕ) → bit (b && leb r.lly y && ltb y r.ury) ≡ cond b (cond (leb r.lly y && ltb y r.ury) 1 0) 0
    inner true y = refl
    inner false y = refl

    column : (b : Bool) → sum_to 65536 (λ y. cond b (cond (leb r.lly y && ltb y r.ury) 1 0) 0) ≡ cond b (r.ury - r.lly) 0
    column true =
        let b : min 65536 r.ury - r.lly ≡ r.ury - r.lly = omega arith in
        sum_range 65536 r.lly r.ury 1 ∙ mul-one _ ∙ b
    column false = sum_zero 65536

    row : (x : ℕ) → sum_to 65536 (λ y. bit (leb r.llx x && ltb x r.urx && leb r.lly y && ltb y r.ury))
        ≡ cond (leb r.llx x && ltb x r.urx) (r.ury - r.lly) 0
    row x = sum_same 65536 _ _ (λ y l. inner (leb r.llx x && ltb x r.urx) y) ∙ column (leb r.llx x && ltb x r.urx)
