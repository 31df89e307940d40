-- `least::find_least` meets its contract; its loop is in LeastLoops.
use Rattle.choose_branch.proofs.LeastLoops.{all_start, top_fits, all_child, all_again, all_end}
use Rattle.choose_branch.proofs.ChildParts.{children_here, child_here}
use Rattle.choose_branch.proofs.least.find_least.Goals as goal

pub overflow_add-extra : goal.overflow_add-extra
overflow_add-extra c = search top_fits

pub loop-branch-init : goal.loop-branch-init
loop-branch-init c = search (all_start, children_here)

pub least_at-best-requires-clause-good_polygon_part : goal.least_at-best-requires-clause-good_polygon_part
least_at-best-requires-clause-good_polygon_part c = search (all_child, child_here)

pub loop-branch-preserved : goal.loop-branch-preserved
loop-branch-preserved c = search (all_again, child_here)

pub returns : goal.returns
returns c = search all_end
