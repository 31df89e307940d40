-- What entries extent, collected cell by cell and group by group.
use Prim.Native.Nat.{◌+◌, min, max}
use mathlib.Core.Path.{◌≡◌, refl, sym, ap, ◌∙◌}
use mathlib.Core.Bool.{true}
use Rattle.std.specs.Prelude.{Some, None}
use mathlib.Core.List.{List, [], ◌∷◌, ◌++◌, append-nil}
use native.Mathlib.Omega.{arith}
use mir.Syntax.{w32}
use mir.Val.{Fits}
use Rattle.polygons.specs.Lists.{least}
use Rattle.geometry.specs.declared.rect.Cell.{Cell}
use Rattle.geometry.specs.Cells.{on_grid}
use Rattle.geometry.specs.Grow.{grown}
use Rattle.geometry.specs.Refine.{union}
use Rattle.geometry.proofs.CellLaws.{grid_x, grid_y}
use Rattle.plane.specs.Best.{greatest}
use Rattle.plane.specs.Lines.{CellEntry}
use Rattle.plane.specs.Plane.{cell_rect}
use Rattle.plane.specs.Candidates.{Extent, extent_of, cell_extent, join_extents}
use Rattle.plane.proofs.ExtentJoins.{extent_one, extent_append, extent_more}
use Rattle.split_line.specs.GroupExtent.{extent_rect, extent_rect_of, group_extent, extent_add, extent_join, rect_or_first}

-- no entries have no extent
pub empty_is : None ≡ group_extent []
unfolding group_extent
empty_is = refl

-- a cell on the grid
module _ (c : Cell) (g : on_grid c ≡ true) where
  pub next_x_fits : Fits w32 (c.x + 1)
  next_x_fits = let h = grid_x c g in omega arith

  pub next_y_fits : Fits w32 (c.y + 1)
  next_y_fits = let h = grid_y c g in omega arith

-- a rectangle grown to a cell, and the union of two rectangles, by their extents
grow_extent : (a : Extent) (c : Cell) → grown (extent_rect a) c ≡ extent_rect (join_extents a (cell_extent c))
unfolding grown extent_rect join_extents cell_extent
grow_extent a c =
    let p : max (a.max_x + 1) (c.x + 1) ≡ max a.max_x c.x + 1 = omega arith in
    let q : max (a.max_y + 1) (c.y + 1) ≡ max a.max_y c.y + 1 = omega arith in
    λ i. record { llx = min a.min_x c.x; lly = min a.min_y c.y; urx = p i; ury = q i }

union_extent : (a b : Extent) → union (extent_rect a) (extent_rect b) ≡ extent_rect (join_extents a b)
unfolding union extent_rect join_extents
union_extent a b =
    let p : max (a.max_x + 1) (b.max_x + 1) ≡ max a.max_x b.max_x + 1 = omega arith in
    let q : max (a.max_y + 1) (b.max_y + 1) ≡ max a.max_y b.max_y + 1 = omega arith in
    λ i. record { llx = min a.min_x b.min_x; lly = min a.min_y b.min_y; urx = p i; ury = q i }

cell_extent_lem : (c : Cell) → cell_rect c ≡ extent_rect (cell_extent c)
unfolding cell_rect extent_rect cell_extent
cell_extent_lem c = refl

-- the extent of entries with one more
pub group_more : (es : List CellEntry) (e : CellEntry) → Some (extent_add (group_extent es) e.cell) ≡ group_extent (es ++ (e ∷ []))
unfolding group_extent extent_add extent_rect_of
group_more [] e = ap Some (cell_extent_lem e.cell ∙ ap extent_rect (sym (extent_one e)))
group_more (a ∷ es) e = ap Some (grow_extent (extent_of (a ∷ es)) e.cell ∙ ap extent_rect (sym (extent_more (a ∷ es) e (omega arith))))

-- the extent of two groups of entries
pub group_append : (g h : List CellEntry) → extent_join (group_extent g) (group_extent h) ≡ group_extent (g ++ h)
unfolding group_extent extent_join extent_rect_of
group_append [] h = refl
group_append (a ∷ g) [] = ap (λ (l : List CellEntry). Some (extent_rect (extent_of l))) (sym (append-nil (a ∷ g)))
group_append (a ∷ g) (b ∷ h) = ap Some (union_extent (extent_of (a ∷ g)) (extent_of (b ∷ h)) ∙ ap extent_rect (sym (extent_append (a ∷ g) (b ∷ h) (omega arith) (omega arith))))

-- the rectangle of the extent of some entries
pub rect_of_group : (es : List CellEntry) → rect_or_first (group_extent es) ≡ extent_rect_of es
unfolding rect_or_first group_extent extent_rect_of extent_rect extent_of least greatest
rect_of_group [] = refl
rect_of_group (e ∷ es) = refl
