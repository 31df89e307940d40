-- The geometries that are written, and the format's type of each.
use Rattle.std.specs.Prelude.{ℕ}
use Rattle.wkb.specs.declared.geometries.Kind.{Kind}
use Rattle.wkb.specs.declared.geometries.Kind.TheVariants.{Polygon, Collection}

-- 'a Polygon (.. type 3 ..)', 'type 7 (GeometryCollection)'
abbrev pub type_number : Kind → ℕ
type_number Polygon = 3
type_number Collection = 7
