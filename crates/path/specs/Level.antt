-- The level of a node on the path.
use Rattle.std.specs.Prelude.{ℕ, None}
use Rattle.geometry.specs.declared.polygon.Polygon.{Polygon}
use Rattle.path.specs.declared.level.Level.{Level}

-- of a node that is not split so far, and from which the path does not go on so far
abbrev pub level_of : ℕ → Polygon → Level
level_of part polygon = record { part = part; place = 0; line = None; polygon = polygon }
