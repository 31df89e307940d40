-- `extent::extent_under` meets its contract, with the level as its measure; its loop is in ExtentWalk.
use native.Mathlib.Omega.{arith}
use Rattle.walks.proofs.WalkLoop.{child_fits}
use Rattle.walks.proofs.WalkChildren.{children_here, child_here}
use Rattle.split_line.proofs.ExtentWalk.{group_leaf, group_of_leaf, group_start, group_child, group_again, group_end}
use Rattle.split_line.proofs.extent.+extent_under.Goals as goal

pub extent_in_leaf-requires : goal.extent_in_leaf-requires
extent_in_leaf-requires t c = search group_leaf

pub returns-then-level-eq0 : goal.returns-then-level-eq0
returns-then-level-eq0 t c = search group_of_leaf

pub loop-part-init : goal.loop-part-init
loop-part-init t c = search (group_start, children_here)

pub extent_under-requires : goal.extent_under-requires
extent_under-requires t c = (omega arith, search (group_child, child_here))

pub overflow_add-low : goal.overflow_add-low
overflow_add-low t c = search (child_fits, child_here)

pub loop-part-preserved : goal.loop-part-preserved
loop-part-preserved t c = search (group_again, child_here)

pub returns : goal.returns
returns t c = search group_end
