-- The numbers of the leaf's line, for up to nine cells: no difference is negative, and all fit 39 bits.
use Prim.Native.Nat.{ℕ, ◌*◌, ◌≤◌}
use mathlib.Core.Bool.{true}
use mathlib.Core.Path.{◌≡◌}
use mathlib.Core.List.{List}
use lib.ListN.{length}
use native.Mathlib.Omega.{arith}
use native.Mathlib.Nat.{mul-le-mul_right}
use Rattle.geometry.specs.Cells.{on_grid}
use Rattle.geometry.proofs.CellLaws.{grid_of}
use Rattle.tree.specs.Lists.{All, total}
use Rattle.tree.proofs.Lists.{all_map}
use Rattle.plane.specs.Lines.{CellEntry, x_of, y_of}
use Rattle.plane.proofs.Spread.{spread_least, sum_most, squares_most}

pub record Bounds (v : CellEntry → ℕ) (es : List CellEntry) : Type 0 where
  -- Σv
  pub sum : total v es ≤ 589815
  -- Σv²
  pub squares : total (λ e. v e * v e) es ≤ 38653526025
  -- n × Σv², below 2^39
  pub product : length es * total (λ e. v e * v e) es ≤ 347881734225
  -- (Σv)² ≤ n × Σv²
  pub difference : total v es * total v es ≤ length es * total (λ e. v e * v e) es

bounds : (v : CellEntry → ℕ) (es : List CellEntry) → length es ≤ 9 → All (λ e. v e ≤ 65535) es → Bounds v es
bounds v es n h =
    let a = sum_most v 65535 es h in
    let b = squares_most v 65535 es h in
    let s : total v es ≤ 589815 = omega arith in
    let q : total (λ e. v e * v e) es ≤ 38653526025 = omega arith in
    let c = mul-le-mul_right (total (λ e. v e * v e) es) n in
    record { sum = s; squares = q; product = omega arith; difference = spread_least v es }

pub x_bounds : (es : List CellEntry) → length es ≤ 9 → All (λ e. on_grid e.cell ≡ true) es → Bounds x_of es
x_bounds es n g = bounds x_of es n (all_map (λ e. on_grid e.cell ≡ true) (λ e. x_of e ≤ 65535) es (λ e h. (grid_of e.cell h).x_most) g)

pub y_bounds : (es : List CellEntry) → length es ≤ 9 → All (λ e. on_grid e.cell ≡ true) es → Bounds y_of es
y_bounds es n g = bounds y_of es n (all_map (λ e. on_grid e.cell ≡ true) (λ e. y_of e ≤ 65535) es (λ e h. (grid_of e.cell h).y_most) g)
