-- Request A.4, 'runs counterclockwise': which way a closed path runs, and around which area.
-- docs/RULES.md 2.30
use Rattle.std.specs.Prelude.{ℕ, ◌+◌, ◌*◌, ◌≤◌, List, [], ◌∷◌, ◌≡◌}

-- the sum, over the points, of a point's x times the next one's y
unfoldable pub x_times_next_y : List (ℕ × ℕ) → ℕ
x_times_next_y [] = 0
x_times_next_y (p ∷ []) = 0
x_times_next_y (p ∷ q ∷ l) = p.0 * q.1 + x_times_next_y (q ∷ l)

-- the sum, over the points, of a point's y times the next one's x
unfoldable pub y_times_next_x : List (ℕ × ℕ) → ℕ
y_times_next_x [] = 0
y_times_next_x (p ∷ []) = 0
y_times_next_x (p ∷ q ∷ l) = p.1 * q.0 + y_times_next_x (q ∷ l)

-- 'runs counterclockwise', around an area: by the shoelace formula the first sum is the greater one, by twice the area
pub record Counterclockwise (l : List (ℕ × ℕ)) (area : ℕ) : Type 0 where
  pub positive : 1 ≤ area
  pub twice : x_times_next_y l ≡ y_times_next_x l + 2 * area
