-- A rectangle's ring: closed, counterclockwise, and around as many unit squares as the rectangle has cells.
use Prim.Native.Nat.{ℕ, ◌+◌, ◌-◌, ◌*◌}
use mathlib.Core.Path.{◌≡◌, refl}
use mathlib.Core.Bool.{true}
use native.Mathlib.Omega.{arith}
use lib.ListN.{length, get_or}
use Rattle.geometry.specs.declared.rect.Rect.{Rect}
use Rattle.geometry.specs.Cells.{valid, area}
use Rattle.geometry.proofs.CellLaws.{valid_of, valid_some}
use Rattle.geometry.proofs.GrowLaws.{area_positive}
use Rattle.wkb.specs.Collection.{ring}
use Rattle.wkb.specs.Orientation.{x_times_next_y, y_times_next_x, Counterclockwise}

-- 'five points'; 'starts at ll .. and closes'
pub ring_five : (r : Rect) → length (ring r) ≡ 5
unfolding ring
ring_five r = refl

pub ring_starts : (r : Rect) → get_or (ring r) 0 (0, 0) ≡ (r.llx, r.lly)
unfolding ring
ring_starts r = refl

pub ring_closes : (r : Rect) → get_or (ring r) 4 (0, 0) ≡ get_or (ring r) 0 (0, 0)
unfolding ring
ring_closes r = refl

-- the two sums for the rectangle (a, b)-(c, d) of the sides w and h
sums : (a b c d w h : ℕ) → c ≡ a + w → d ≡ b + h
    → a * b + (c * d + (c * d + (a * b + 0))) ≡ b * c + (b * c + (d * a + (d * a + 0))) + 2 * (w * h)
sums a b c d w h e f = rw (e, f) (omega arith)

-- 'counterclockwise'
pub ring_runs : (r : Rect) → valid r ≡ true → Counterclockwise (ring r) (area r)
unfolding ring x_times_next_y y_times_next_x area
ring_runs r v =
    let k = valid_of r v in
    let w : ℕ = r.urx - r.llx in
    let h : ℕ = r.ury - r.lly in
    let x : r.urx ≡ r.llx + w = omega (arith, k.wide) in
    let y : r.ury ≡ r.lly + h = omega (arith, k.high) in
    record { positive = area_positive r (valid_some r v); twice = sums _ _ _ _ w h x y }
