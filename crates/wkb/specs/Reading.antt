-- What a reader of Well-Known Binary finds in bytes: the headers, and each point of each ring as two exact doubles.
-- docs/RULES.md 2.29
use Rattle.std.specs.Prelude.{ℕ, ◌+◌, ◌*◌, ◌<◌, List, ◌≡◌, length, get_or, take, drop}
use Rattle.geometry.specs.declared.rect.Rect.{Rect}
use Rattle.geometry.specs.Cells.{no_rect}
use Rattle.wkb.specs.Bytes.{little_value}
use Rattle.wkb.specs.Doubles.{ReadAs}
use Rattle.wkb.specs.Collection.{ring}

-- the number in the four bytes from a place on
abbrev pub word_at : List ℕ → ℕ → ℕ
word_at m at = little_value (take 4 (drop at m))

-- The bytes begin with byte order 1, a type and a count.
pub record HeaderRead (m : List ℕ) (kind count : ℕ) : Type 0 where
  pub order : get_or m 0 0 ≡ 1
  pub kind_is : word_at m 1 ≡ kind
  pub count_is : word_at m 5 ≡ count

-- They begin with the two doubles of a point.
pub record PointRead (m : List ℕ) (p : ℕ × ℕ) : Type 0 where
  pub x : ReadAs (take 8 m) p.0
  pub y : ReadAs (take 8 (drop 8 m)) p.1

-- They begin with a polygon of one ring of five points, the ring of a rectangle.
pub record PolygonRead (m : List ℕ) (r : Rect) : Type 0 where
  pub header : HeaderRead m 3 1
  pub points : word_at m 9 ≡ 5
  pub point : (j : ℕ) → j < 5 → PointRead (drop (13 + 16 * j) m) (get_or (ring r) j (0, 0))

-- They begin with a collection of such polygons, those of a list of rectangles in its order.
pub record CollectionRead (m : List ℕ) (rs : List Rect) : Type 0 where
  pub header : HeaderRead m 7 (length rs)
  pub polygon : (i : ℕ) → i < length rs → PolygonRead (drop (9 + 93 * i) m) (get_or rs i no_rect)
