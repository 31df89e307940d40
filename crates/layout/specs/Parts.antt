-- One part written into a memory or a work area.
use Rattle.std.specs.Prelude.{ℕ, ◌+◌, ◌*◌, ◌≤◌, List, ◌++◌, ◌≡◌, length, take}
use Rattle.geometry.specs.declared.polygon.Polygon.{Polygon}
use Rattle.geometry.specs.Numbers.{numbers_of, rects_of}
use Rattle.memory.specs.Image.{padded}

-- A list of numbers holds the rectangles of a polygon, and zeros behind them.
pub record RectsStored (p : Polygon) (l : List ℕ) : Type 0 where
  pub list : l ≡ padded 126 (numbers_of (rects_of p))
  pub count_is : length (rects_of p) ≡ p.count

-- The part next of w was written, which gives w'; what stood before it is kept.
pub record PartPut (w : List ℕ) (next : ℕ) (p : List ℕ) (w' : List ℕ) : Type 0 where
  pub written : take (64 + 128 * (next + 1)) w' ≡ take (64 + 128 * next) w ++ p
  pub same_length : length w' ≡ length w

-- There is room for the part next, and for no more than 256 parts.
pub record PartRoom (w : List ℕ) (next : ℕ) : Type 0 where
  pub fits : 64 + 128 * (next + 1) ≤ length w
  pub small : length w ≤ 32832
