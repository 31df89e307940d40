-- `on_path::write_half` meets its contract, with the level as its measure; its steps are in HalfLaws.
use native.Mathlib.Omega.{arith}
use Rattle.tree_after.proofs.FrontLaws.{slice_from, slice_kept, room_below, first_is, first_room, second_is, second_room, kept_both}
use Rattle.tree_after.proofs.PathLaws.{read_unsplit, read_line, path_leaf, path_step, path_down, path_room}
use Rattle.tree_after.proofs.RowLaws.{writes_on}
use Rattle.tree_after.proofs.HalfLaws.{leaf_room, leaf_done, before_room, half_start, half_few, rest_room, rest_few, half_done, whole_room, whole_done, left_room, left_done, right_room, right_done}
use Rattle.tree_after.proofs.on_path.+write_half.Goals as goal

pub write_path_leaf-requires-clause-path_node : goal.write_path_leaf-requires-clause-path_node
write_path_leaf-requires-clause-path_node t c = search path_leaf

pub write_path_leaf-requires-clause-room : goal.write_path_leaf-requires-clause-room
write_path_leaf-requires-clause-room t c = rw (slice_from c.args.sides.now c.args.at) (leaf_room _ _ _ _ _ _ _ c.if-level-eq0.true c.requires.room)

pub returns-then-level-eq0-clause-writes : goal.returns-then-level-eq0-clause-writes
returns-then-level-eq0-clause-writes t c = leaf_done _ _ _ _ _ _ _ _ _ c.if-level-eq0.true (rw (slice_from c.args.sides.now c.args.at) at c.write_path_leaf.ensures)

pub write_before-before-requires-clause-path_step : goal.write_before-before-requires-clause-path_step
write_before-before-requires-clause-path_step t c = search path_step

pub write_before-before-requires-clause-room : goal.write_before-before-requires-clause-room
write_before-before-requires-clause-room t c = rw (slice_from c.args.sides.now c.args.at) (before_room _ _ _ _ _ _ _ c.if-level-eq0.false c.requires.path_from c.requires.room)

pub write_half-after-requires : goal.write_half-after-requires
write_half-after-requires t c =
    let ne = c.if-level-eq0.false in
    let h = half_start _ _ _ _ _ _ _ ne c.requires.path_from c.requires.room _ _ (rw (slice_from c.args.sides.now c.args.at) at c.write_before-before.ensures) in
    (omega arith, (path_down _ _ _ ne c.requires.path_from, (room_below _ _ _ c.requires.sides_room ne, whole_room _ _ _ _ _ _ _ _ _ h (read_unsplit _ _ _ (path_room _ _ _ ne c.requires.path_from) c.in_default.is))))

pub with_branch-branches-requires-clause-next_le_after : goal.with_branch-branches-requires-clause-next_le_after
with_branch-branches-requires-clause-next_le_after t c = writes_on _ _ _ _ _ _ c.write_half-after.ensures.writes

pub with_branch-branches-requires-clause-count_bound : goal.with_branch-branches-requires-clause-count_bound
with_branch-branches-requires-clause-count_bound t c =
    let ne = c.if-level-eq0.false in
    let h = half_start _ _ _ _ _ _ _ ne c.requires.path_from c.requires.room _ _ (rw (slice_from c.args.sides.now c.args.at) at c.write_before-before.ensures) in
    half_few _ _ _ _ _ _ _ _ _ _ _ h (omega arith)

pub write_rest-requires-clause-path_step : goal.write_rest-requires-clause-path_step
write_rest-requires-clause-path_step t c = search path_step

pub write_rest-requires-clause-count_bound : goal.write_rest-requires-clause-count_bound
write_rest-requires-clause-count_bound t c =
    let ne = c.if-level-eq0.false in
    let h = half_start _ _ _ _ _ _ _ ne c.requires.path_from c.requires.room _ _ (rw (slice_from c.args.sides.now c.args.at) at c.write_before-before.ensures) in
    let y = whole_done _ _ _ _ _ _ _ _ _ h (read_unsplit _ _ _ (path_room _ _ _ ne c.requires.path_from) c.in_default.is) _ _ _ c.write_half-after.ensures.writes c.with_branch-branches.ensures in
    let s = slice_kept c.args.sides.now c.args.at _ c.write_half-after.ensures.sides_kept in
    rest_few _ _ _ _ _ _ _ _ _ y

pub write_rest-requires-clause-rest_room : goal.write_rest-requires-clause-rest_room
write_rest-requires-clause-rest_room t c =
    let ne = c.if-level-eq0.false in
    let h = half_start _ _ _ _ _ _ _ ne c.requires.path_from c.requires.room _ _ (rw (slice_from c.args.sides.now c.args.at) at c.write_before-before.ensures) in
    let y = whole_done _ _ _ _ _ _ _ _ _ h (read_unsplit _ _ _ (path_room _ _ _ ne c.requires.path_from) c.in_default.is) _ _ _ c.write_half-after.ensures.writes c.with_branch-branches.ensures in
    let s = slice_kept c.args.sides.now c.args.at _ c.write_half-after.ensures.sides_kept in
    rw s (rest_room _ _ _ _ _ _ _ _ _ y)

pub returns-in_default-clause-writes : goal.returns-in_default-clause-writes
returns-in_default-clause-writes t c =
    let ne = c.if-level-eq0.false in
    let h = half_start _ _ _ _ _ _ _ ne c.requires.path_from c.requires.room _ _ (rw (slice_from c.args.sides.now c.args.at) at c.write_before-before.ensures) in
    let y = whole_done _ _ _ _ _ _ _ _ _ h (read_unsplit _ _ _ (path_room _ _ _ ne c.requires.path_from) c.in_default.is) _ _ _ c.write_half-after.ensures.writes c.with_branch-branches.ensures in
    let s = slice_kept c.args.sides.now c.args.at _ c.write_half-after.ensures.sides_kept in
    half_done _ _ _ _ _ _ _ _ _ y _ _ (rw s at c.write_rest.ensures)

pub write_half-middle-requires : goal.write_half-middle-requires
write_half-middle-requires t c =
    let ne = c.if-level-eq0.false in
    let h = half_start _ _ _ _ _ _ _ ne c.requires.path_from c.requires.room _ _ (rw (slice_from c.args.sides.now c.args.at) at c.write_before-before.ensures) in
    let room = c.requires.sides_room in
    let u = first_is _ _ _ room ne _ in
    (omega arith, (path_down _ _ _ ne c.requires.path_from, (first_room _ _ _ room ne _, left_room _ _ _ _ _ _ _ _ _ h _ _ (read_line _ _ _ (path_room _ _ _ ne c.requires.path_from) _ c.in-Some.is) u)))

pub with_branch-left-requires-clause-next_le_after : goal.with_branch-left-requires-clause-next_le_after
with_branch-left-requires-clause-next_le_after t c = writes_on _ _ _ _ _ _ c.write_half-middle.ensures.writes

pub with_branch-left-requires-clause-count_bound : goal.with_branch-left-requires-clause-count_bound
with_branch-left-requires-clause-count_bound t c =
    let ne = c.if-level-eq0.false in
    let h = half_start _ _ _ _ _ _ _ ne c.requires.path_from c.requires.room _ _ (rw (slice_from c.args.sides.now c.args.at) at c.write_before-before.ensures) in
    half_few _ _ _ _ _ _ _ _ _ _ _ h (omega arith)

pub write_half-after-requires-2 : goal.write_half-after-requires-2
write_half-after-requires-2 t c =
    let ne = c.if-level-eq0.false in
    let h = half_start _ _ _ _ _ _ _ ne c.requires.path_from c.requires.room _ _ (rw (slice_from c.args.sides.now c.args.at) at c.write_before-before.ensures) in
    let room = c.requires.sides_room in
    let u = first_is _ _ _ room ne _ in
    let middle = c.write_half-middle.ensures in
    let y = left_done _ _ _ _ _ _ _ _ _ h _ _ (read_line _ _ _ (path_room _ _ _ ne c.requires.path_from) _ c.in-Some.is) u _ _ _ middle.writes c.with_branch-left.ensures in
    let v = second_is _ _ _ room ne _ _ middle.sides_kept _ in
    (omega arith, (path_down _ _ _ ne c.requires.path_from, (second_room _ _ _ room ne _ _ middle.sides_kept _, right_room _ _ _ _ _ _ _ _ _ _ y _ v)))

pub with_branch-branches-requires-2-clause-next_le_after : goal.with_branch-branches-requires-2-clause-next_le_after
with_branch-branches-requires-2-clause-next_le_after t c = writes_on _ _ _ _ _ _ c.write_half-after-2.ensures.writes

pub with_branch-branches-requires-2-clause-count_bound : goal.with_branch-branches-requires-2-clause-count_bound
with_branch-branches-requires-2-clause-count_bound t c =
    let ne = c.if-level-eq0.false in
    let h = half_start _ _ _ _ _ _ _ ne c.requires.path_from c.requires.room _ _ (rw (slice_from c.args.sides.now c.args.at) at c.write_before-before.ensures) in
    let room = c.requires.sides_room in
    let u = first_is _ _ _ room ne _ in
    let middle = c.write_half-middle.ensures in
    let y = left_done _ _ _ _ _ _ _ _ _ h _ _ (read_line _ _ _ (path_room _ _ _ ne c.requires.path_from) _ c.in-Some.is) u _ _ _ middle.writes c.with_branch-left.ensures in
    half_few _ _ _ _ _ _ _ _ _ _ _ y (omega arith)

pub write_rest-requires-2-clause-path_step : goal.write_rest-requires-2-clause-path_step
write_rest-requires-2-clause-path_step t c = search path_step

pub write_rest-requires-2-clause-count_bound : goal.write_rest-requires-2-clause-count_bound
write_rest-requires-2-clause-count_bound t c =
    let ne = c.if-level-eq0.false in
    let h = half_start _ _ _ _ _ _ _ ne c.requires.path_from c.requires.room _ _ (rw (slice_from c.args.sides.now c.args.at) at c.write_before-before.ensures) in
    let room = c.requires.sides_room in
    let u = first_is _ _ _ room ne _ in
    let middle = c.write_half-middle.ensures in
    let y = left_done _ _ _ _ _ _ _ _ _ h _ _ (read_line _ _ _ (path_room _ _ _ ne c.requires.path_from) _ c.in-Some.is) u _ _ _ middle.writes c.with_branch-left.ensures in
    let v = second_is _ _ _ room ne _ _ middle.sides_kept _ in
    let after = c.write_half-after-2.ensures in
    let x = right_done _ _ _ _ _ _ _ _ _ _ y _ v _ _ _ after.writes c.with_branch-branches-2.ensures in
    let s = slice_kept c.args.sides.now c.args.at _ (kept_both _ _ _ room ne _ _ middle.sides_kept _ _ after.sides_kept) in
    rest_few _ _ _ _ _ _ _ _ _ x

pub write_rest-requires-2-clause-rest_room : goal.write_rest-requires-2-clause-rest_room
write_rest-requires-2-clause-rest_room t c =
    let ne = c.if-level-eq0.false in
    let h = half_start _ _ _ _ _ _ _ ne c.requires.path_from c.requires.room _ _ (rw (slice_from c.args.sides.now c.args.at) at c.write_before-before.ensures) in
    let room = c.requires.sides_room in
    let u = first_is _ _ _ room ne _ in
    let middle = c.write_half-middle.ensures in
    let y = left_done _ _ _ _ _ _ _ _ _ h _ _ (read_line _ _ _ (path_room _ _ _ ne c.requires.path_from) _ c.in-Some.is) u _ _ _ middle.writes c.with_branch-left.ensures in
    let v = second_is _ _ _ room ne _ _ middle.sides_kept _ in
    let after = c.write_half-after-2.ensures in
    let x = right_done _ _ _ _ _ _ _ _ _ _ y _ v _ _ _ after.writes c.with_branch-branches-2.ensures in
    let s = slice_kept c.args.sides.now c.args.at _ (kept_both _ _ _ room ne _ _ middle.sides_kept _ _ after.sides_kept) in
    rw s (rest_room _ _ _ _ _ _ _ _ _ x)

pub returns-clause-sides_kept : goal.returns-clause-sides_kept
returns-clause-sides_kept t c = kept_both _ _ _ c.requires.sides_room c.if-level-eq0.false _ _ c.write_half-middle.ensures.sides_kept _ _ c.write_half-after-2.ensures.sides_kept

pub returns-clause-writes : goal.returns-clause-writes
returns-clause-writes t c =
    let ne = c.if-level-eq0.false in
    let h = half_start _ _ _ _ _ _ _ ne c.requires.path_from c.requires.room _ _ (rw (slice_from c.args.sides.now c.args.at) at c.write_before-before.ensures) in
    let room = c.requires.sides_room in
    let u = first_is _ _ _ room ne _ in
    let middle = c.write_half-middle.ensures in
    let y = left_done _ _ _ _ _ _ _ _ _ h _ _ (read_line _ _ _ (path_room _ _ _ ne c.requires.path_from) _ c.in-Some.is) u _ _ _ middle.writes c.with_branch-left.ensures in
    let v = second_is _ _ _ room ne _ _ middle.sides_kept _ in
    let after = c.write_half-after-2.ensures in
    let x = right_done _ _ _ _ _ _ _ _ _ _ y _ v _ _ _ after.writes c.with_branch-branches-2.ensures in
    let s = slice_kept c.args.sides.now c.args.at _ (kept_both _ _ _ room ne _ _ middle.sides_kept _ _ after.sides_kept) in
    half_done _ _ _ _ _ _ _ _ _ x _ _ (rw s at c.write_rest-2.ensures)
