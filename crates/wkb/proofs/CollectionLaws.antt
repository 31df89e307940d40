-- How many bytes each geometry has, and where a collection has its polygons and their points.
use Prim.Native.Nat.{ℕ, ◌*◌}
use mathlib.Core.Path.{◌≡◌, ◌∙◌}
use mathlib.Core.List.{List, flat_map}
use lib.ListN.{length, length-append}
use Rattle.polygons.proofs.FlatLaws.{flat_length}
use Rattle.geometry.specs.declared.rect.Rect.{Rect}
use Rattle.wkb.specs.Collection.{header_bytes, point_bytes, ring, polygon_bytes, collection_bytes, wkb_length}
use Rattle.wkb.proofs.ByteLaws.{length_little}
use Rattle.wkb.proofs.DoubleLaws.{length_double}

pub length_header : (kind count : ℕ) → length (header_bytes kind count) ≡ 9
unfolding header_bytes
length_header kind count = simp (length-append, length_little)

pub length_point : (p : ℕ × ℕ) → length (point_bytes p) ≡ 16
unfolding point_bytes
length_point p = rw (length-append, length_double p.0, length_double p.1)

pub length_ring : (r : Rect) → length (flat_map point_bytes (ring r)) ≡ 80
unfolding ring
length_ring r = flat_length point_bytes 16 length_point (ring r)

pub length_polygon : (r : Rect) → length (polygon_bytes r) ≡ 93
unfolding polygon_bytes
length_polygon r = simp (length-append, length_header, length_little, length_ring)

pub length_polygons : (rs : List Rect) → length (flat_map polygon_bytes rs) ≡ 93 * length rs
length_polygons rs = flat_length polygon_bytes 93 length_polygon rs

-- 'The length, which is returned, is 9 + 93 × rectangles'
pub length_collection : (rs : List Rect) → length (collection_bytes rs) ≡ wkb_length (length rs)
unfolding collection_bytes
length_collection rs =
    length-append (header_bytes 7 (length rs)) (flat_map polygon_bytes rs)
    ∙ rw (length_header 7 (length rs), length_polygons rs)
