-- The invariant of a loop that asks whether some rectangle of a list passes a test.
use mathlib.Core.Path.{◌≡◌, refl, ◌∙◌}
use mathlib.Core.Bool.{Bool, true, false, ◌||◌}
use mathlib.Core.List.{List}
use Prim.Native.Nat.{ℕ, ◌+◌, ◌*◌, ◌≤◌, ◌<◌}
use native.Mathlib.Omega.{arith}
use lib.ListN.{length, drop}
use Rattle.polygons.specs.Lists.{any}
use Rattle.geometry.specs.declared.rect.Rect.{Rect}
use Rattle.geometry.specs.Numbers.{rect_at, rects_in}
use Rattle.geometry.proofs.NumberLaws.{rects_next, rects_end}

-- Whether some rectangle passes is w, and it is settled by those from the i-th on.
pub record Scan (p : Rect → Bool) (m : List ℕ) (n i : ℕ) (w : Bool) : Type 0 where
  pub i_le : i ≤ n
  pub fits : 4 * n ≤ length m
  pub rest : w ≡ any p (drop i (rects_in m n))

module _ (p : Rect → Bool) (m : List ℕ) (n i : ℕ) where
  pub scan_start : i ≤ n → 4 * n ≤ length m → Scan p m n i (any p (drop i (rects_in m n)))
  scan_start a b = record { i_le = a; fits = b; rest = refl }

  pub scan_all : 4 * n ≤ length m → Scan p m n 0 (any p (rects_in m n))
  scan_all b = record { i_le = omega arith; fits = b; rest = refl }

  module _ (w : Bool) (v : Scan p m n i w) where
    pub scan_end : n ≤ i → false ≡ w
    unfolding any
    scan_end h = rw (v.rest, rects_end m n i h)

    module _ (s : Rect) (b : Bool) (h : i < n) (e : s ≡ rect_at m i) (f : b ≡ p s) where
      next : w ≡ b || any p (drop (i + 1) (rects_in m n))
      unfolding any
      next = v.rest ∙ rw (rects_next m n i h, ← e, ← f)

      pub scan_hit : b ≡ true → true ≡ w
      scan_hit g = rw (next, g)

      pub scan_miss : b ≡ false → Scan p m n (i + 1) w
      scan_miss g = record { i_le = omega arith; fits = v.fits; rest = next ∙ rw g }
