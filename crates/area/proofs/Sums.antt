-- Sums of numbers, and sums over the cells of a grid.
use mathlib.Core.Path.{◌≡◌, refl, ◌∙◌}
use mathlib.Core.Bool.{◌&&◌, cond}
use Prim.Native.Nat.{ℕ, zero, suc, ◌+◌, ◌*◌, ◌-◌, ◌≤◌, ◌<◌, min}
use native.Mathlib.Nat.{suc-mul, zero-mul, le_refl}
use native.Mathlib.Omega.{arith}
use native.Mathlib.Decide.{dec_le, dec_lt}
use borrow.Author.Tests.{le-leb, lt-leb, lt-ltb, le-ltb}
use lib.Dec.{leb, ltb}
use Rattle.geometry.specs.declared.rect.Cell.{Cell}
use Rattle.area.specs.CellCount.{sum_to, sum_grid}

-- sums of equal numbers are equal
pub sum_same : (n : ℕ) (f g : ℕ → ℕ) → ((k : ℕ) → k < n → f k ≡ g k) → sum_to n f ≡ sum_to n g
unfolding sum_to
sum_same zero f g h = refl
sum_same (suc n) f g h = rw (sum_same n f g (λ k l. h k (omega arith)), h n (le_refl (suc n)))

-- the sum of sums
pub sum_add : (n : ℕ) (f g : ℕ → ℕ) → sum_to n (λ k. f k + g k) ≡ sum_to n f + sum_to n g
unfolding sum_to
sum_add zero f g = refl
sum_add (suc n) f g = let ih = sum_add n f g in omega arith

pub sum_zero : (n : ℕ) → sum_to n (λ k. 0) ≡ 0
unfolding sum_to
sum_zero zero = refl
sum_zero (suc n) = rw (sum_zero n)

-- a sum of n numbers that are at most b each
pub sum_bound : (n b : ℕ) (f : ℕ → ℕ) → ((k : ℕ) → f k ≤ b) → sum_to n f ≤ n * b
unfolding sum_to
sum_bound zero b f h = omega arith
sum_bound (suc n) b f h = rw suc-mul (omega (arith, sum_bound n b f h, h n))

-- no number is more than the sum that it is part of
pub sum_part : (n k : ℕ) (f : ℕ → ℕ) → k < n → f k ≤ sum_to n f
unfolding sum_to
sum_part zero k f h = absurd (omega arith)
sum_part (suc n) k f h = go (dec_lt k n) (sum_part n k f)
  where
    go : Dec (k < n) → (k < n → f k ≤ sum_to n f) → f k ≤ sum_to n f + f n
    go (yes l) ih = omega (arith, ih l)
    go (no l) ih =
        let e : k ≡ n = omega arith in
        rw e (omega arith)

-- v for each number from a to before b
pub sum_range : (n a b v : ℕ) → sum_to n (λ k. cond (leb a k && ltb k b) v 0) ≡ (min n b - a) * v
unfolding sum_to
sum_range zero a b v = let z : min 0 b - a ≡ 0 = omega arith in rw (z, zero-mul)
sum_range (suc n) a b v = rw (sum_range n a b v) (go (dec_le a n) (dec_lt n b))
  where
    go : Dec (a ≤ n) → Dec (n < b) → (min n b - a) * v + cond (leb a n && ltb n b) v 0 ≡ (min (suc n) b - a) * v
    go (yes p) (yes q) =
        let e : min (suc n) b - a ≡ suc (min n b - a) = omega arith in
        rw (le-leb a n p, lt-ltb n b q, e, suc-mul)
    go (yes p) (no q) =
        let e : min (suc n) b - a ≡ min n b - a = omega arith in
        let l : b ≤ n = omega arith in
        rw (le-leb a n p, le-ltb n b l, e) (omega arith)
    go (no p) q =
        let e : min (suc n) b - a ≡ min n b - a = omega arith in
        let l : n < a = omega arith in
        rw (lt-leb a n l, e) (omega arith)

module _ (n : ℕ) where
  -- sums over a grid of equal numbers are equal
  pub grid_same : (f g : Cell → ℕ) → ((c : Cell) → f c ≡ g c) → sum_grid n f ≡ sum_grid n g
  unfolding sum_grid
  grid_same f g h = sum_same n _ _ (λ x p. sum_same n _ _ (λ y q. h _))

  pub grid_add : (f g : Cell → ℕ) → sum_grid n (λ c. f c + g c) ≡ sum_grid n f + sum_grid n g
  unfolding sum_grid
  grid_add f g = sum_same n _ _ (λ x p. sum_add n _ _) ∙ sum_add n _ _

  pub grid_zero : sum_grid n (λ c. 0) ≡ 0
  unfolding sum_grid
  grid_zero = sum_same n _ _ (λ x p. sum_zero n) ∙ sum_zero n

  pub grid_bound : (f : Cell → ℕ) → ((c : Cell) → f c ≤ 1) → sum_grid n f ≤ n * n
  unfolding sum_grid
  grid_bound f h = sum_bound n n _ (λ x. let b = sum_bound n 1 (λ y. f (record { x = x; y = y })) (λ y. h _) in omega arith)

  pub grid_part : (f : Cell → ℕ) (c : Cell) → c.x < n → c.y < n → f c ≤ sum_grid n f
  unfolding sum_grid
  grid_part f c p q =
      let a = sum_part n c.y (λ y. f (record { x = c.x; y = y })) q in
      let b = sum_part n c.x (λ x. sum_to n (λ y. f (record { x = x; y = y }))) p in
      omega arith
