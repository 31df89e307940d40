-- How many cells of the grid pass a test.
-- docs/RULES.md 2.4, 2.10
use Rattle.std.specs.Prelude.{ℕ, zero, suc, ◌+◌, Bool, cond}
use Rattle.geometry.specs.declared.rect.Cell.{Cell}

-- f 0 + f 1 + .. + f (n - 1)
unfoldable pub sum_to : ℕ → (ℕ → ℕ) → ℕ
sum_to zero f = 0
sum_to (suc n) f = sum_to n f + f n

-- the sum of f over the cells of a grid of n × n cells
unfoldable pub sum_grid : ℕ → (Cell → ℕ) → ℕ
sum_grid n f = sum_to n (λ x. sum_to n (λ y. f (record { x = x; y = y })))

-- 1 for a test that passes, 0 for one that does not
abbrev pub bit : Bool → ℕ
bit b = cond b 1 0

-- 'A cell is a pair (x, y), each from 0 to 65535.' How many of them pass a test
unfoldable pub cell_count : (Cell → Bool) → ℕ
cell_count t = sum_grid 65536 (λ c. bit (t c))
