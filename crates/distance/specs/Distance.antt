-- Request A.1: squared distances between cells, and from a cell to a rectangle.
-- docs/RULES.md 5.13, 5.14
use Rattle.std.specs.Prelude.{ℕ, ◌+◌, ◌*◌, ◌-◌, min, max}
use Rattle.geometry.specs.declared.rect.Cell.{Cell}
use Rattle.geometry.specs.declared.rect.Rect.{Rect}

-- dx, dy: how far apart two coordinates are (one of the two differences is 0)
unfoldable pub gap : ℕ → ℕ → ℕ
gap a b = (a - b) + (b - a)

-- '(dx)² + (dy)²'
unfoldable pub squared : Cell → Cell → ℕ
squared c d = gap c.x d.x * gap c.x d.x + gap c.y d.y * gap c.y d.y

-- the coordinate nearest to v among those from lo up to hi, which is excluded
unfoldable pub clamped : ℕ → ℕ → ℕ → ℕ
clamped lo hi v = max lo (min v (hi - 1))

-- the cell of a rectangle that is nearest to a cell
abbrev pub nearest_cell : Cell → Rect → Cell
nearest_cell c r = record { x = clamped r.llx r.urx c.x; y = clamped r.lly r.ury c.y }

-- 'the least squared distance from the cell to a cell' of the rectangle (that it is the least: the laws rect_least and
-- rect_attained)
unfoldable pub rect_distance : Cell → Rect → ℕ
rect_distance c r = squared c (nearest_cell c r)
