-- What a drop, a join and a refine leave in a list of numbers, four a rectangle.
use Rattle.std.specs.Prelude.{◌≡◌, List, ℕ, ◌-◌, ◌≤◌, length}
use Rattle.geometry.specs.Numbers.{rects_in}
use Rattle.geometry.specs.Refine.{dropped, joined, refine}

-- The i-th of n rectangles was taken out of the numbers.
pub record Dropped (m : List ℕ) (n i : ℕ) (m' : List ℕ) : Type 0 where
  pub list : rects_in m' (n - 1) ≡ dropped (rects_in m n) i
  pub same_length : length m' ≡ length m

-- The i-th and the j-th of n rectangles were joined.
pub record Joined (m : List ℕ) (n i j : ℕ) (m' : List ℕ) : Type 0 where
  pub list : rects_in m' (n - 1) ≡ joined (rects_in m n) i j
  pub same_length : length m' ≡ length m

-- The first n rectangles were refined, which leaves the first n'.
pub record Refined (m : List ℕ) (n : ℕ) (m' : List ℕ) (n' : ℕ) : Type 0 where
  pub list : rects_in m' n' ≡ refine (rects_in m n)
  pub fewer : n' ≤ n
  pub same_length : length m' ≡ length m
