-- `least_distance` meets its contract; its loop is in LeastLoop.
use Rattle.std.proofs.Common.{rules}
use Rattle.geometry.specs.Rects.{rects_left}
use Rattle.distance.proofs.LeastLoop.{valid_first, least_none, least_start, least_next, least_end}
use Rattle.distance.proofs.least.least_distance.Goals as goal

pub returns-in_default : goal.returns-in_default
returns-in_default c = least_none c.args.c (rects_left c.args.rects) (search rules)

pub rect_distance-best-requires-clause-r_value : goal.rect_distance-best-requires-clause-r_value
rect_distance-best-requires-clause-r_value c = valid_first _ _ _ c.requires.rects_value c.in-Some.ensures.steps

pub loop-r-init : goal.loop-r-init
loop-r-init c =
    least_start _ _ _ c.next.new.self c.into_iter-r-iterator.result (search rules) _ c.requires.rects_value c.in-Some.ensures.steps c.rect_distance-best.ensures

pub rect_distance-requires-clause-r_value : goal.rect_distance-requires-clause-r_value
rect_distance-requires-clause-r_value c = valid_first _ _ _ c.loop-r.invariant.fine c.in-Some-r.ensures.steps

pub loop-r-preserved : goal.loop-r-preserved
loop-r-preserved c = least_next _ _ _ _ c.loop-r.invariant _ _ c.in-Some-r.ensures.steps _ _ (search rules) c.rect_distance.ensures

pub returns : goal.returns
returns c = least_end _ _ _ _ c.loop-r.invariant (search rules)
