-- `cut::cut_polygon` meets its contract; its loop is in CutLoops.
use Rattle.std.proofs.Common.{rules}
use Rattle.geometry.proofs.CutLoops.{cutting_start, cutting_again, cutting_over, cutting_end}
use Rattle.geometry.proofs.cut.cut_polygon.Goals as goal

pub loop-s-init : goal.loop-s-init
loop-s-init c = search cutting_start

pub returns-in_err-m-clause-written : goal.returns-in_err-m-clause-written
returns-in_err-m-clause-written c =
    cutting_over _ _ _ _ _ _ _ _ c.loop-s.invariant _ _ _ (search rules) c.cut_once.ensures.written _ c.in_err-m.was _ c.from_residual.ensures.0

pub loop-s-preserved : goal.loop-s-preserved
loop-s-preserved c =
    cutting_again _ _ _ _ _ _ _ _ c.loop-s.invariant _ _ _ (search rules) c.cut_once.ensures.written _ _ c.in_ok-m.was (search rules)

pub returns-clause-written : goal.returns-clause-written
returns-clause-written c = search cutting_end
