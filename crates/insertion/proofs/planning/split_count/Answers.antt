-- `planning::split_count` meets its contract; its loop is in SplitCount.
use Rattle.tree_after.proofs.PathLaws.{read_is}
use Rattle.insertion.proofs.PlanBounds.{count_level, count_in}
use Rattle.insertion.proofs.SplitCount.{counting_stop, counting_again, counting_end}
use Rattle.insertion.proofs.planning.split_count.Goals as goal

pub count_at-requires : goal.count_at-requires
count_at-requires c =
    rw (read_is c.args.path.now c.loop-n.n c.index-path-n.result (count_level _ _ _ _ c.requires c.loop-n-test.true)) (search count_in)

pub returns-then-count_at-lt-FANOUT : goal.returns-then-count_at-lt-FANOUT
returns-then-count_at-lt-FANOUT c =
    let e = rw (read_is c.args.path.now c.loop-n.n c.index-path-n.result (count_level _ _ _ _ c.requires c.loop-n-test.true)) at c.count_at.ensures in
    search (counting_stop, e)

pub loop-n-preserved : goal.loop-n-preserved
loop-n-preserved c =
    let e = rw (read_is c.args.path.now c.loop-n.n c.index-path-n.result (count_level _ _ _ _ c.requires c.loop-n-test.true)) at c.count_at.ensures in
    search (counting_again, e)

pub returns : goal.returns
returns c = search counting_end
