-- The path of an insertion, from the root down to the leaf that gets the entry: a level for each of its nodes, a level
-- being the number of steps down to the leaf.
use native.Mathlib.Omega.{arith}
use Rattle.std.specs.Prelude.{ℕ, ◌<◌, ◌≤◌, List, [], Option, None, length, get_or, ◌≡◌}
use Rattle.geometry.specs.declared.rect.Line.{Line}
use Rattle.geometry.specs.declared.rect.Rect.{Rect}
use Rattle.geometry.specs.Numbers.{rects_of}
use Rattle.path.specs.declared.level.Level.{Level}

-- what is read where the path has no such level
abbrev pub no_level : Level
no_level = record { part = 0; place = 0; line = None; polygon = record { rects = []; count = 0; few = omega arith } }

abbrev pub level_on : List Level → ℕ → Level
level_on path n = get_or path n no_level

-- the part of the node on the path at a level
abbrev pub part_on : List Level → ℕ → ℕ
part_on path n = (level_on path n).part

-- the place among its branches of the one gone to
abbrev pub place_on : List Level → ℕ → ℕ
place_on path n = (level_on path n).place

-- the line that splits it
abbrev pub line_on : List Level → ℕ → Option Line
line_on path n = (level_on path n).line

-- its polygon, as grown
abbrev pub polygon_on : List Level → ℕ → List Rect
polygon_on path n = rects_of (level_on path n).polygon

-- how many rectangles that has
abbrev pub rect_count_on : List Level → ℕ → ℕ
rect_count_on path n = (level_on path n).polygon.count

-- the path has the level
abbrev pub HasLevel : ℕ → List Level → Type 0
HasLevel n path = n < length path

-- the polygon of the level has no more rectangles than a polygon has room for
abbrev pub FewRects : ℕ → List Level → Type 0
FewRects n path = rect_count_on path n ≤ 16

-- the level j of two paths is the same
abbrev pub SameLevel : ℕ → List Level → List Level → Type 0
SameLevel j path path' = level_on path' j ≡ level_on path j

-- every level above the level n is the same
abbrev pub SameAbove : ℕ → List Level → List Level → Type 0
SameAbove n path path' = (j : ℕ) → n < j → SameLevel j path path'
