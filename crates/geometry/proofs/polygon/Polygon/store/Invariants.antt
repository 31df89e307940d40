-- `Polygon::store` meets its contract; its loop is in PolygonLoops.
use Rattle.geometry.specs.Numbers.{rects_of}
use Rattle.geometry.proofs.PolygonLoops.{Storing}
use Rattle.geometry.proofs.polygon.Polygon.store.Given as goal

abbrev pub invariant-loop-i : goal.invariant-loop-i
invariant-loop-i l = Storing l.initial.list (rects_of l.fn.self) l.list l.i
