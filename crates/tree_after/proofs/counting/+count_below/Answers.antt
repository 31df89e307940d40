-- `counting::count_below` meets its contract, with the level as its measure; its loop is in CountLoop.
use native.Mathlib.Omega.{arith}
use Rattle.walks.proofs.WalkRows.{node_part_lem}
use Rattle.tree_after.proofs.DeepRows.{deep_fits}
use Rattle.tree_after.proofs.CountLoop.{count_leaf, count_start, count_child, child_few, count_again, count_end}
use Rattle.walks.proofs.WalkChildren.{children_here, child_here}
use Rattle.tree_after.proofs.counting.+count_below.Goals as goal

pub count_leaf-requires : goal.count_leaf-requires
count_leaf-requires t c = search node_part_lem

pub returns-then-level-eq0 : goal.returns-then-level-eq0
returns-then-level-eq0 t c = search count_leaf

pub loop-part-init : goal.loop-part-init
loop-part-init t c = search (count_start, children_here)

pub count_below-below-requires : goal.count_below-below-requires
count_below-below-requires t c = (omega arith, search (count_child, child_here))

pub capped_sum-nodes-requires-clause-b_le_count_limit : goal.capped_sum-nodes-requires-clause-b_le_count_limit
capped_sum-nodes-requires-clause-b_le_count_limit t c = search child_few

pub overflow_add-low : goal.overflow_add-low
overflow_add-low t c = search (deep_fits, child_here)

pub loop-part-preserved : goal.loop-part-preserved
loop-part-preserved t c = search (count_again, child_here)

pub returns : goal.returns
returns t c = search count_end
