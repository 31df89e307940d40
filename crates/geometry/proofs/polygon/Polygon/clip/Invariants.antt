-- `Polygon::clip` meets its contract; its loop is in PolygonLoops.
use Rattle.geometry.specs.Numbers.{rects_of}
use Rattle.geometry.proofs.PolygonLoops.{Clipping}
use Rattle.geometry.proofs.polygon.Polygon.clip.Given as goal

abbrev pub invariant-loop-r : goal.invariant-loop-r
invariant-loop-r l = Clipping l.side (rects_of l.fn.self) l.out l.r-index
