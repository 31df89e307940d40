-- `counting::count_branches` meets its contract; its loop is in PathCount.
use native.Mathlib.Nat.{add_assoc}
use Rattle.tree_after.proofs.PathCount.{range_end, range_walk, range_again, count_few}
use Rattle.tree_after.proofs.RowLaws.{range_in, range_inside, range_over, range_child}
use Rattle.tree_after.proofs.counting.count_branches.Goals as goal

pub slice_bounds-part-items-end : goal.slice_bounds-part-items-end
slice_bounds-part-items-end c = search range_in

pub count_below-below-requires : goal.count_below-below-requires
count_below-below-requires c = search (range_walk, range_inside, range_child)

pub capped_sum-nodes-requires-clause-b_le_count_limit : goal.capped_sum-nodes-requires-clause-b_le_count_limit
capped_sum-nodes-requires-clause-b_le_count_limit c = search count_few

pub loop-part-preserved : goal.loop-part-preserved
loop-part-preserved c =
    rw (← (add_assoc c.args.from c.loop-part.part-index 1)) (search (range_again, range_inside, range_child))

pub returns : goal.returns
returns c = search (range_end, range_over)
