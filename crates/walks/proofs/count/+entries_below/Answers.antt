-- `count::entries_below` meets its contract, with the level as its measure; its loop is in WalkLoop and CountWalk.
use native.Mathlib.Omega.{arith}
use Rattle.walks.proofs.WalkLoop.{child_walkable, child_fits}
use Rattle.walks.proofs.CountWalk.{held_leaf, held_start, held_next, held_fits, held_end}
use Rattle.walks.proofs.WalkChildren.{children_here, child_here}
use Rattle.walks.proofs.count.+entries_below.Goals as goal

pub returns-then-level-eq0 : goal.returns-then-level-eq0
returns-then-level-eq0 t c = search held_leaf

pub loop-part-init : goal.loop-part-init
loop-part-init t c = search (held_start, children_here)

pub entries_below-sum-requires : goal.entries_below-sum-requires
entries_below-sum-requires t c = (omega arith, search (child_walkable, child_here))

pub overflow_add-sum : goal.overflow_add-sum
overflow_add-sum t c = search (held_fits, child_here)

pub overflow_add-low : goal.overflow_add-low
overflow_add-low t c = search (child_fits, child_here)

pub loop-part-preserved : goal.loop-part-preserved
loop-part-preserved t c = search (held_next, child_here)

pub returns : goal.returns
returns t c = search held_end
