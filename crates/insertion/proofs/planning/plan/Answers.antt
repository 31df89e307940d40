-- `planning::plan` meets its contract; its loop is in PlanLoop.
use Rattle.path.proofs.PutLaws.{line_put}
use Rattle.tree_after.proofs.PathLaws.{read_is}
use Rattle.insertion.proofs.PlanBounds.{plan_level}
use Rattle.insertion.proofs.PlanLoop.{plan_again, plan_end}
use Rattle.insertion.proofs.planning.plan.Goals as goal

pub loop-n-preserved : goal.loop-n-preserved
loop-n-preserved c =
    let h = plan_level _ _ _ _ _ _ _ c.loop-n.invariant c.loop-n-test.true in
    rw (read_is c.loop-n.path c.loop-n.n c.index-path-n.result h) (search (plan_again, line_put, h))

pub returns : goal.returns
returns c = search plan_end
