-- Request A.4, a polygon as Well-Known Binary: 'byte order 1, type 7 (GeometryCollection), the rectangle count, then
-- per rectangle a Polygon (byte order 1, type 3, one ring, five points).'
-- docs/RULES.md 2.29 to 2.31
use Rattle.std.specs.Prelude.{ℕ, ◌+◌, ◌*◌, length}
use mathlib.Core.List.{List, [], ◌∷◌, ◌++◌, flat_map}
use Rattle.geometry.specs.declared.rect.Rect.{Rect}
use Rattle.wkb.specs.Bytes.{little_bytes}
use Rattle.wkb.specs.Doubles.{double_bytes}

-- 'byte order 1', a type and a count: one byte, and four bytes each
unfoldable pub header_bytes : ℕ → ℕ → List ℕ
header_bytes kind count = little_bytes 1 1 ++ little_bytes 4 kind ++ little_bytes 4 count

-- a point: x and y
unfoldable pub point_bytes : ℕ × ℕ → List ℕ
point_bytes p = double_bytes p.0 ++ double_bytes p.1

-- 'The ring starts at ll, runs counterclockwise and closes.' ur is the excluded corner, as it is stored: 65536 occurs.
unfoldable pub ring : Rect → List (ℕ × ℕ)
ring r = (r.llx, r.lly) ∷ (r.urx, r.lly) ∷ (r.urx, r.ury) ∷ (r.llx, r.ury) ∷ (r.llx, r.lly) ∷ []

-- 'per rectangle a Polygon (byte order 1, type 3, one ring, five points)'
unfoldable pub polygon_bytes : Rect → List ℕ
polygon_bytes r = header_bytes 3 1 ++ little_bytes 4 5 ++ flat_map point_bytes (ring r)

-- 'byte order 1, type 7 (GeometryCollection), the rectangle count, then per rectangle a Polygon'; 'Rectangles are
-- written in their order'
unfoldable pub collection_bytes : List Rect → List ℕ
collection_bytes rs = header_bytes 7 (length rs) ++ flat_map polygon_bytes rs

-- 'The length, which is returned, is 9 + 93 × rectangles'
abbrev pub wkb_length : ℕ → ℕ
wkb_length n = 9 + 93 * n
