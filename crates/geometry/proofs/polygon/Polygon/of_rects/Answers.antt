-- `Polygon::of_rects` meets its contract; its loop is in PolygonLoops.
use Rattle.std.proofs.Common.{rules}
use Rattle.geometry.proofs.PolygonLoops.{load_start, load_room, load_again, load_end}
use Rattle.geometry.proofs.polygon.Polygon.of_rects.Goals as goal

pub loop-r-init : goal.loop-r-init
loop-r-init c = search load_start

pub push-requires : goal.push-requires
push-requires c = load_room _ _ _ c.loop-r.invariant _ _ c.in-Some.ensures.steps

pub loop-r-preserved : goal.loop-r-preserved
loop-r-preserved c = load_again _ _ _ c.loop-r.invariant _ _ c.in-Some.ensures.steps _ (search rules) (search rules)

pub returns : goal.returns
returns c = load_end _ _ _ c.loop-r.invariant (search rules)
