-- `geometries::put_collection` meets its contract; its loop is in PolygonsLoop.
use borrow.Author.Rules.{rules}
use Rattle.wkb.proofs.PolygonsLoop.{polygons_start, polygons_again, polygons_end}
use Rattle.wkb.proofs.geometries.put_collection.Goals as goal

pub loop-r-init : goal.loop-r-init
loop-r-init c = search polygons_start

pub loop-r-preserved : goal.loop-r-preserved
loop-r-preserved c = polygons_again _ _ _ _ _ c.loop-r.invariant (search rules) _ _ c.in-Some.ensures.steps _ c.put_polygon.ensures

pub returns : goal.returns
returns c = polygons_end _ _ _ _ _ _ _ c.loop-r.invariant (search rules) c.requires c.len.ensures c.put_header.ensures
