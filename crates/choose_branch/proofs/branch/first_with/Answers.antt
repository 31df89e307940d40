-- `branch::first_with` meets its contract; its loop is in FirstLoop.
use Rattle.choose_branch.proofs.FirstLoop.{look_start, look_child, look_hit, look_again}
use Rattle.choose_branch.proofs.ChildParts.{children_here, child_here}
use Rattle.choose_branch.proofs.branch.first_with.Goals as goal

pub loop-place-init : goal.loop-place-init
loop-place-init c = search (look_start, children_here)

pub polygon_has-requires : goal.polygon_has-requires
polygon_has-requires c = search (look_child, child_here)

pub returns-then-polygon_has : goal.returns-then-polygon_has
returns-then-polygon_has c = search (look_hit, child_here)

pub loop-place-preserved : goal.loop-place-preserved
loop-place-preserved c = search (look_again, child_here)
