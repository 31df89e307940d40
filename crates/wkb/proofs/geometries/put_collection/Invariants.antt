-- `geometries::put_collection` meets its contract; its loop is in PolygonsLoop.
use Rattle.geometry.specs.Rects.{rects_left}
use Rattle.wkb.proofs.PolygonsLoop.{Polygons}
use Rattle.wkb.proofs.geometries.put_collection.Given as goal

abbrev pub invariant-loop-r : goal.invariant-loop-r
invariant-loop-r l = Polygons (rects_left l.fn.rects) (rects_left l.r-iterator) l.initial.out l.out l.at
