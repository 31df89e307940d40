-- `off_path::write_below` meets its contract, with the level as its measure; its loop is in WriteLoop and WriteBelow.
use native.Mathlib.Omega.{arith}
use Rattle.walks.proofs.WalkRows.{node_part_lem}
use Rattle.tree_after.proofs.DeepRows.{deep_fits}
use Rattle.tree_after.proofs.WriteLoop.{write_start, child_walk_lem, child_room, count_small}
use Rattle.tree_after.proofs.WriteBelow.{plain_room, plain_writes, at_leaf_room, at_leaf_writes, write_one, write_nothing, write_moved, node_gone, node_own_room, node_writes}
use Rattle.walks.proofs.WalkChildren.{children_here, child_here}
use Rattle.tree_after.proofs.off_path.+write_below.Goals as goal
use Rattle.tree_after.proofs.off_path.+write_below.Goals.{else-after-free, then-after-free}

pub copy_below-requires-clause-room : goal.copy_below-requires-clause-room
copy_below-requires-clause-room t c = search plain_room

pub returns-then-sides-eq0 : goal.returns-then-sides-eq0
returns-then-sides-eq0 t c = search plain_writes

pub write_leaf-requires-clause-node_part : goal.write_leaf-requires-clause-node_part
write_leaf-requires-clause-node_part t c = search node_part_lem

pub write_leaf-requires-clause-room : goal.write_leaf-requires-clause-room
write_leaf-requires-clause-room t c = search at_leaf_room

pub returns-then-level-eq0 : goal.returns-then-level-eq0
returns-then-level-eq0 t c = search at_leaf_writes

pub loop-part-init : goal.loop-part-init
loop-part-init t c = search (write_start, children_here)

pub write_below-after-requires : goal.write_below-after-requires
write_below-after-requires t c = (omega arith, (search (child_walk_lem, child_here), search (child_room, child_here)))

pub overflow_sub-after : goal.overflow_sub-after
overflow_sub-after t c = search write_moved

pub add_child-requires : goal.add_child-requires
add_child-requires t c = search count_small

pub overflow_add-low : goal.overflow_add-low
overflow_add-low t c = search (deep_fits, child_here)

pub loop-part-preserved : goal.loop-part-preserved
loop-part-preserved t c = elim c.if-after-free.branch [ then-after-free x ↦ search (write_one, child_here) | else-after-free x ↦ search (write_nothing, child_here) ]

pub returns-then-remaining-eq0 : goal.returns-then-remaining-eq0
returns-then-remaining-eq0 t c = search node_gone

pub put_remaining-requires-clause-node_part : goal.put_remaining-requires-clause-node_part
put_remaining-requires-clause-node_part t c = search node_part_lem

pub put_remaining-requires-clause-part_room : goal.put_remaining-requires-clause-part_room
put_remaining-requires-clause-part_room t c = search node_own_room

pub returns : goal.returns
returns t c = search node_writes
