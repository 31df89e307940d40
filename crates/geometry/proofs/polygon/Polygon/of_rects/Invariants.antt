-- `Polygon::of_rects` meets its contract; its loop is in PolygonLoops.
use Rattle.geometry.specs.Rects.{rects_left}
use Rattle.geometry.proofs.PolygonLoops.{Loading}
use Rattle.geometry.proofs.polygon.Polygon.of_rects.Given as goal

abbrev pub invariant-loop-r : goal.invariant-loop-r
invariant-loop-r l = Loading (rects_left l.fn.rects) (rects_left l.r-iterator) l.p
