-- The root's polygon: it has the new cell and the old ones, and stays one rectangle.
use Prim.Native.Nat.{ℕ}
use mathlib.Core.Bool.{Bool, true, false, cond}
use mathlib.Core.Path.{◌≡◌, refl}
use mathlib.Core.List.{[], ◌∷◌}
use native.Mathlib.Omega.{arith}
use Rattle.geometry.specs.declared.rect.Cell.{Cell}
use Rattle.geometry.specs.declared.rect.Rect.{Rect}
use Rattle.geometry.specs.Cells.{on_grid, has_cell, non_empty, valid}
use Rattle.geometry.specs.Common.{overlap, unless_empty, common}
use Rattle.geometry.proofs.CellLaws.{of_in, grid_of, of_valid, corner, corner_in}
use Rattle.geometry.proofs.GrowLaws.{grow_valid}
use Rattle.tree.specs.Lists.{All}
use Rattle.tree.proofs.Laws.{RootLaws}
use Rattle.tree.proofs.BoxLaws.{RootBoxLaws}
use Rattle.tree.proofs.BoxRoot.{root_laws}
use Rattle.plane.specs.Plane.{plane, plane_space, cell_rect, plane_root}
use Rattle.plane.proofs.Rects.{plane_laws}

-- the rectangle of a cell is valid, and has the cell
cell_valid : (c : Cell) → on_grid c ≡ true → valid (cell_rect c) ≡ true
unfolding cell_rect
cell_valid c e = let g = grid_of c e in of_valid (cell_rect c) (omega arith)

cell_has : (c : Cell) → has_cell (cell_rect c) c ≡ true
unfolding cell_rect
cell_has c = of_in (cell_rect c) c (omega arith)

-- a common part has a cell
common_cell : (r s : Rect) → All (λ q. (c : Cell) × (has_cell q c ≡ true)) (common r s)
unfolding common unless_empty All
common_cell r s = go (non_empty (overlap r s)) refl
  where
    go : (b : Bool) → non_empty (overlap r s) ≡ b → All (λ q. (c : Cell) × (has_cell q c ≡ true)) (cond b (overlap r s ∷ []) [])
    go true e = ((corner (overlap r s), corner_in (overlap r s) e), tt)
    go false e = tt

module _ (fanout : ℕ) where
  -- the laws of the root, of rectangles
  pub plane_root_box_laws : RootBoxLaws (plane fanout) cell_rect
  plane_root_box_laws = record { cell_has = cell_has; cell_valid = cell_valid; grow_valid = λ r c g v. grow_valid r c v g; common_cell = common_cell }

  -- and of the tree's root
  pub plane_root_laws : RootLaws (plane_space fanout) (plane_root fanout)
  plane_root_laws = root_laws (plane fanout) (plane_laws fanout) cell_rect plane_root_box_laws
