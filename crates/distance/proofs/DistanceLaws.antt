-- The distance to a rectangle is the least of the distances to its cells.
use Prim.Native.Nat.{ℕ, ◌*◌, ◌-◌, ◌≤◌, ◌<◌}
use mathlib.Core.Bool.{true}
use mathlib.Core.Path.{◌≡◌, refl, ap, ◌∙◌}
use native.Mathlib.Omega.{arith}
use native.Mathlib.Nat.{mul-le-mul}
use native.Mathlib.Decide.{dec_le, dec_lt}
use Rattle.geometry.specs.declared.rect.Cell.{Cell}
use Rattle.geometry.specs.declared.rect.Rect.{Rect}
use Rattle.geometry.specs.Cells.{has_cell, valid}
use Rattle.geometry.proofs.CellLaws.{in_of, of_in, valid_of}
use Rattle.distance.specs.Distance.{gap, squared, clamped, nearest_cell, rect_distance}

pub clamped_mid : (lo hi v : ℕ) → lo ≤ v → v < hi → clamped lo hi v ≡ v
unfolding clamped
clamped_mid lo hi v h k = omega arith

pub clamped_low : (lo hi v : ℕ) → v < lo → clamped lo hi v ≡ lo
unfolding clamped
clamped_low lo hi v h = omega arith

pub clamped_high : (lo hi v : ℕ) → lo < hi → hi ≤ v → clamped lo hi v ≡ hi - 1
unfolding clamped
clamped_high lo hi v h k = omega arith

pub gap_up : (a b : ℕ) → a ≤ b → gap a b ≡ b - a
unfolding gap
gap_up a b h = omega arith

pub gap_down : (a b : ℕ) → b ≤ a → gap a b ≡ a - b
unfolding gap
gap_down a b h = omega arith

-- no coordinate of the range is nearer
gap_clamped : (lo hi v w : ℕ) → lo ≤ w → w < hi → gap v (clamped lo hi v) ≤ gap v w
gap_clamped lo hi v w h k = go (dec_le lo v) (dec_lt v hi)
  where
    go : Dec (lo ≤ v) → Dec (v < hi) → gap v (clamped lo hi v) ≤ gap v w
    go (yes i) (yes j) =
        let a : gap v (clamped lo hi v) ≡ 0 = ap (gap v) (clamped_mid lo hi v i j) ∙ gap_up v v (omega arith) ∙ omega arith in
        omega arith
    go (yes i) (no j) =
        let m : hi ≤ v = omega arith in
        let l : lo < hi = omega arith in
        let a : gap v (clamped lo hi v) ≡ v - (hi - 1) = ap (gap v) (clamped_high lo hi v l m) ∙ gap_down v (hi - 1) (omega arith) in
        let b : gap v w ≡ v - w = gap_down v w (omega arith) in
        omega arith
    go (no i) j =
        let m : v < lo = omega arith in
        let a : gap v (clamped lo hi v) ≡ lo - v = ap (gap v) (clamped_low lo hi v m) ∙ gap_up v lo (omega arith) in
        let b : gap v w ≡ w - v = gap_up v w (omega arith) in
        omega arith

-- the nearest coordinate is one of the range
clamped_in : (lo hi v : ℕ) → lo < hi → (lo ≤ clamped lo hi v) × (clamped lo hi v < hi)
unfolding clamped
clamped_in lo hi v h = (omega arith, omega arith)

pub square_le : (a b : ℕ) → a ≤ b → a * a ≤ b * b
square_le a b h = mul-le-mul h h

-- no cell of the rectangle is nearer
pub rect_least : (r : Rect) (c d : Cell) → has_cell r d ≡ true → rect_distance c r ≤ squared c d
unfolding rect_distance squared
rect_least r c d h =
    let i = in_of r d h in
    let a = square_le _ _ (gap_clamped r.llx r.urx c.x d.x i.x_from i.x_to) in
    let b = square_le _ _ (gap_clamped r.lly r.ury c.y d.y i.y_from i.y_to) in
    omega arith

pub nearest_in : (r : Rect) (c : Cell) → valid r ≡ true → has_cell r (nearest_cell c r) ≡ true
nearest_in r c h =
    let v = valid_of r h in
    let a = clamped_in r.llx r.urx c.x v.wide in
    let b = clamped_in r.lly r.ury c.y v.high in
    of_in r (nearest_cell c r) (record { x_from = a.0; x_to = a.1; y_from = b.0; y_to = b.1 })

-- and one is that near
pub rect_attained : (r : Rect) (c : Cell) → valid r ≡ true → (d : Cell) × (has_cell r d ≡ true) × (squared c d ≡ rect_distance c r)
unfolding rect_distance
rect_attained r c h = (nearest_cell c r, nearest_in r c h, refl)
