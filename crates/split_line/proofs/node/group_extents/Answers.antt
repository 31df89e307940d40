-- `node::group_extents` meets its contract; its loop is in GroupLoop.
use Rattle.split_line.proofs.GroupLoop.{branch_start, branch_here, branch_fits, branch_again, branch_end}
use Rattle.walks.proofs.WalkChildren.{children_here, child_here}
use Rattle.split_line.proofs.node.group_extents.Goals as goal

pub loop-i-init : goal.loop-i-init
loop-i-init c = search (branch_start, children_here)

pub put_branch-requires : goal.put_branch-requires
put_branch-requires c = search (branch_here, child_here)

pub overflow_add-low : goal.overflow_add-low
overflow_add-low c = search (branch_fits, child_here)

pub loop-i-preserved : goal.loop-i-preserved
loop-i-preserved c = search (branch_again, child_here)

pub returns : goal.returns
returns c = search branch_end
