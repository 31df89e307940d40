-- The fanout of document 01, and the plane with it.
-- docs/RULES.md 3.1
use Rattle.std.specs.Prelude.{ℕ}
use Rattle.tree.specs.Space.{Space}
use Rattle.tree.specs.Root.{Root}
use Rattle.tree.specs.Tree.{Index}
use Rattle.tree.specs.Query.{Window}
use Rattle.plane.specs.Plane.{plane_space, plane_root}
use Rattle.plane.specs.Windows.{plane_window}

-- 'A leaf holds 1 to 8 entries', 'A routing node holds 1 to 8 branches'
abbrev pub fanout : ℕ
fanout = 8

-- the plane with this fanout, its root and its windows
abbrev pub index_space : Space
index_space = plane_space fanout

abbrev pub index_root : Root index_space
index_root = plane_root fanout

abbrev pub index_window : Window index_space
index_window = plane_window fanout

-- an index of document 01's trees
abbrev pub PlaneIndex : Type 0
PlaneIndex = Index index_space
