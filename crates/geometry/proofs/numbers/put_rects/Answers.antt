-- `numbers::put_rects` meets its contract; its loop is in PutLoop.
use Rattle.std.proofs.Common.{rules}
use Rattle.geometry.proofs.PutLoop.{put_start, put_room, put_again, put_end}
use Rattle.geometry.proofs.numbers.put_rects.Goals as goal

pub loop-r-init : goal.loop-r-init
loop-r-init c = search put_start

pub put_rect-requires : goal.put_rect-requires
put_rect-requires c = put_room _ _ _ _ _ _ c.loop-r.invariant _ _ c.in-Some.ensures.steps

pub loop-r-preserved : goal.loop-r-preserved
loop-r-preserved c = put_again _ _ _ _ _ _ c.loop-r.invariant _ _ c.in-Some.ensures.steps _ c.put_rect.ensures

pub returns : goal.returns
returns c = put_end _ _ _ _ _ _ c.loop-r.invariant (search rules)
