-- The distances as the code computes them: squares that fit 64 bits, clamped coordinates.
use Prim.Native.Nat.{ℕ, ◌*◌, ◌≤◌, ◌<◌}
use mathlib.Core.Bool.{true}
use mathlib.Core.Path.{◌≡◌, ap, ◌∙◌}
use native.Mathlib.Omega.{arith}
use Rattle.geometry.specs.declared.rect.Cell.{Cell}
use Rattle.geometry.specs.declared.rect.Rect.{Rect}
use Rattle.geometry.specs.Cells.{on_grid, valid}
use Rattle.geometry.proofs.CellLaws.{valid_of, grid_of, valid_grid}
use Rattle.distance.specs.Distance.{gap, squared, clamped, nearest_cell, rect_distance}
use Rattle.distance.proofs.DistanceLaws.{square_le, nearest_in}

gap_small : (a b n : ℕ) → a ≤ n → b ≤ n → gap a b ≤ n
unfolding gap
gap_small a b n h k = omega arith

-- squares of the grid's distances fit
module _ (c d : Cell) (hc : on_grid c ≡ true) (hd : on_grid d ≡ true) where
  pub x_square : (n : ℕ) → n ≡ gap c.x d.x → n * n ≤ 4294836225
  x_square n e =
      let s : n ≤ 65535 = let g = gap_small c.x d.x 65535 (grid_of c hc).x_most (grid_of d hd).x_most in omega arith in
      square_le n 65535 s

  pub y_square : (n : ℕ) → n ≡ gap c.y d.y → n * n ≤ 4294836225
  y_square n e =
      let s : n ≤ 65535 = let g = gap_small c.y d.y 65535 (grid_of c hc).y_most (grid_of d hd).y_most in omega arith in
      square_le n 65535 s

-- the nearest cell of a rectangle, by its coordinates
module _ (c : Cell) (r : Rect) (x y : ℕ) (e : x ≡ clamped r.llx r.urx c.x) (f : y ≡ clamped r.lly r.ury c.y) where
  is_nearest : record { x = x; y = y } ≡ nearest_cell c r
  is_nearest = λ i. record { x = e i; y = f i }

  pub found_grid : valid r ≡ true → on_grid (record { x = x; y = y }) ≡ true
  found_grid h = ap on_grid is_nearest ∙ valid_grid r (nearest_cell c r) h (nearest_in r c h)

  pub found_distance : (d : ℕ) → d ≡ squared c (record { x = x; y = y }) → d ≡ rect_distance c r
  unfolding rect_distance
  found_distance d g = g ∙ ap (squared c) is_nearest

pub wide_of : (r : Rect) → valid r ≡ true → r.llx < r.urx
wide_of r h = (valid_of r h).wide

pub high_of : (r : Rect) → valid r ≡ true → r.lly < r.ury
high_of r h = (valid_of r h).high
