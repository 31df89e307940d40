-- A node in memory, as the functions that read it speak of it: by its part, or by the part's number.
use Rattle.std.specs.Prelude.{ℕ, ◌+◌, ◌*◌, ◌≤◌, ◌<◌, List, ◌≡◌, length, get_or, true}
use Rattle.geometry.specs.Cells.{all_valid}
use Rattle.memory.specs.Layout.{parts_of, part, rect_count, item_count, polygon_in}

-- a list as long as a part
abbrev pub IsPart : List ℕ → Type 0
IsPart p = length p ≡ 128

-- the i-th child of a routing node's part
abbrev pub child_in : List ℕ → ℕ → ℕ
child_in p i = get_or p (66 + i) 0

-- part k is one of the memory's
abbrev pub PartIn : List ℕ → ℕ → Type 0
PartIn m k = 64 + 128 * k + 128 ≤ length m

-- of the node at part k: the count of its items, and its i-th child
abbrev pub count_at : List ℕ → ℕ → ℕ
count_at m k = item_count (part m k)

abbrev pub child_at : List ℕ → ℕ → ℕ → ℕ
child_at m k i = child_in (part m k) i

-- a part with counts no larger than the layout admits
pub record NodePart (p : List ℕ) : Type 0 where
  pub length_is : length p ≡ 128
  pub few_rects : rect_count p ≤ 16
  pub few_items : item_count p ≤ 8

-- part k is one of the memory's, and its polygon has at most 16 rectangles
pub record PolygonPart (m : List ℕ) (k : ℕ) : Type 0 where
  pub below : k < parts_of m
  pub few_rects : rect_count (part m k) ≤ 16

-- that polygon has a rectangle, and its rectangles are valid
pub record GoodPolygonPart (m : List ℕ) (k : ℕ) : Type 0 where
  pub polygon : PolygonPart m k
  pub some_rects : 1 ≤ rect_count (part m k)
  pub valid : all_valid (polygon_in (part m k)) ≡ true
