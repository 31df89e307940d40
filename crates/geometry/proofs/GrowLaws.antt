-- A rectangle grown to take a cell in; areas.
use mathlib.Core.Path.{◌≡◌}
use mathlib.Core.Bool.{true}
use Prim.Native.Nat.{◌-◌, ◌≤◌}
use native.Mathlib.Nat.{mul-le-mul, one-le-mul}
use native.Mathlib.Omega.{arith}
use Rattle.geometry.specs.declared.rect.Cell.{Cell}
use Rattle.geometry.specs.declared.rect.Rect.{Rect}
use Rattle.geometry.specs.Cells.{on_grid, has_cell, non_empty, valid, area}
use Rattle.geometry.specs.Grow.{grown}
use Rattle.geometry.specs.Refine.{within}
use Rattle.geometry.proofs.CellLaws.{rect_is, in_of, of_in, grid_of, valid_of, of_valid, some_of, within_of, of_within}

-- a valid rectangle has at most as many cells as the grid
pub area_bound : (r : Rect) → valid r ≡ true → area r ≤ 4294967296
unfolding area
area_bound r e =
    let v = valid_of r e in
    let a : r.urx - r.llx ≤ 65536 = omega arith in
    let b : r.ury - r.lly ≤ 65536 = omega arith in
    mul-le-mul a b

-- a rectangle that is not empty has at least one cell
pub area_positive : (r : Rect) → non_empty r ≡ true → 1 ≤ area r
unfolding area
area_positive r e =
    let s = some_of r e in
    let a : 1 ≤ r.urx - r.llx = omega arith in
    let b : 1 ≤ r.ury - r.lly = omega arith in
    one-le-mul a b

module _ (r : Rect) (c : Cell) where
  -- the grown rectangle has the cell
  pub grow_has : has_cell (grown r c) c ≡ true
  unfolding grown
  grow_has = of_in (grown r c) c (omega arith)

  -- the grown rectangle contains the old one
  pub grow_contains : within r (grown r c) ≡ true
  unfolding grown
  grow_contains = of_within r (grown r c) (omega arith)

  -- the grown rectangle is the least: whatever contains the old one and has the cell contains it
  pub grow_least : (s : Rect) → within r s ≡ true → has_cell s c ≡ true → within (grown r c) s ≡ true
  unfolding grown
  grow_least s e t = let w = within_of r s e in let i = in_of s c t in of_within (grown r c) s (omega arith)

  -- a valid rectangle grown to a cell on the grid is valid
  pub grow_valid : valid r ≡ true → on_grid c ≡ true → valid (grown r c) ≡ true
  unfolding grown
  grow_valid e f = let v = valid_of r e in let g = grid_of c f in of_valid (grown r c) (omega arith)

  -- a rectangle that has the cell is not changed by growing
  pub grow_keeps : has_cell r c ≡ true → grown r c ≡ r
  unfolding grown
  grow_keeps t = let i = in_of r c t in rect_is (grown r c) r (omega arith) (omega arith) (omega arith) (omega arith)

  wide : r.urx - r.llx ≤ (grown r c).urx - (grown r c).llx
  unfolding grown
  wide = omega arith

  high : r.ury - r.lly ≤ (grown r c).ury - (grown r c).lly
  unfolding grown
  high = omega arith

  -- growing makes no area smaller
  pub area_grows : area r ≤ area (grown r c)
  unfolding area
  area_grows = mul-le-mul wide high
