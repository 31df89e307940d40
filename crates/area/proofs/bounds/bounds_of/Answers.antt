-- `bounds::bounds_of` meets its contract; its loop is in BoundLoop.
use Rattle.std.proofs.Common.{rules}
use Rattle.area.specs.Bounds.{bounds_of}
use Rattle.area.proofs.BoundLoop.{unite_start, unite_again, unite_end}
use Rattle.area.proofs.bounds.bounds_of.Goals as goal

pub returns-in_default : goal.returns-in_default
unfolding bounds_of
returns-in_default c = rw c.in_default.ensures.steps.0

pub loop-r-init : goal.loop-r-init
loop-r-init c = unite_start _ _ c.next.new.self c.into_iter-r-iterator.result (search rules) c.in-Some.ensures.steps

pub loop-r-preserved : goal.loop-r-preserved
loop-r-preserved c = unite_again _ _ _ c.loop-r.invariant _ _ c.in-Some-r.ensures.steps _ c.union-bounds.ensures

pub returns : goal.returns
returns c = unite_end _ _ _ c.loop-r.invariant (search rules)
