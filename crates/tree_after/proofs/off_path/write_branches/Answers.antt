-- `off_path::write_branches` meets its contract; its loop is in RowLaws.
use native.Mathlib.Nat.{add-zero, add_assoc}
use Rattle.tree_after.proofs.RowLaws.{writes_on, range_in, range_inside, range_over, range_child, branch_start, branch_walk, branch_room, branch_again, branch_end}
use Rattle.tree_after.proofs.off_path.write_branches.Goals as goal

pub slice_bounds-part-items-end : goal.slice_bounds-part-items-end
slice_bounds-part-items-end c = search range_in

pub loop-part-init : goal.loop-part-init
loop-part-init c = rw (add-zero c.args.from) (search branch_start)

pub write_below-after-requires-clause-walkable : goal.write_below-after-requires-clause-walkable
write_below-after-requires-clause-walkable c = search (branch_walk, range_inside, range_child)

pub write_below-after-requires-clause-room : goal.write_below-after-requires-clause-room
write_below-after-requires-clause-room c = search (branch_room, range_inside, range_child)

pub with_branch-out-requires-clause-next_le_after : goal.with_branch-out-requires-clause-next_le_after
with_branch-out-requires-clause-next_le_after c = search writes_on

pub loop-part-preserved : goal.loop-part-preserved
loop-part-preserved c =
    rw (← (add_assoc c.args.from c.loop-part.part-index 1)) (search (branch_again, range_inside, range_child))

pub returns : goal.returns
returns c = search (branch_end, range_over)
