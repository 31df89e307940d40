-- `off_path::copy_below` meets its contract, with the level as its measure; its loop is in CopyBelow.
use native.Mathlib.Omega.{arith}
use Rattle.tree_after.proofs.DeepRows.{deep_fits}
use Rattle.tree_after.proofs.CopyBelow.{copy_leaf_room, copy_leaf, copy_start, copy_few, copy_walk, copy_child_room, copy_again, copy_moved, copy_room, copy_end}
use Rattle.walks.proofs.WalkChildren.{children_here, child_here}
use Rattle.tree_after.proofs.off_path.+copy_below.Goals as goal

pub copy_part-requires-clause-part_room : goal.copy_part-requires-clause-part_room
copy_part-requires-clause-part_room t c = search copy_leaf_room

pub returns-then-level-eq0 : goal.returns-then-level-eq0
returns-then-level-eq0 t c = search copy_leaf

pub loop-part-init : goal.loop-part-init
loop-part-init t c = search (copy_start, children_here)

pub copy_below-free-requires : goal.copy_below-free-requires
copy_below-free-requires t c = (omega arith, (search (copy_walk, child_here), search (copy_child_room, child_here)))

pub overflow_sub-free : goal.overflow_sub-free
overflow_sub-free t c = search (copy_moved, child_here)

pub add_child-requires : goal.add_child-requires
add_child-requires t c = search copy_few

pub overflow_add-low : goal.overflow_add-low
overflow_add-low t c = search (deep_fits, child_here)

pub loop-part-preserved : goal.loop-part-preserved
loop-part-preserved t c = search (copy_again, child_here)

pub copy_node-requires-clause-part_room : goal.copy_node-requires-clause-part_room
copy_node-requires-clause-part_room t c = search copy_room

pub returns : goal.returns
returns t c = search copy_end
