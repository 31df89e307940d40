-- `on_path::write_split` meets its contract; its steps are in TreeLaws.
use native.Mathlib.Omega.{arith}
use Rattle.tree_after.proofs.FrontLaws.{root_first, root_length}
use Rattle.tree_after.proofs.PathLaws.{read_is, path_has}
use Rattle.tree_after.proofs.RowLaws.{writes_on}
use Rattle.tree_after.proofs.TreeLaws.{none_next, none_few, root_left_room, root_left, root_right_room, root_right, root_top_room, root_done}
use Rattle.tree_after.proofs.on_path.write_split.Goals as goal

pub write_half-middle-requires-clause-room : goal.write_half-middle-requires-clause-room
write_half-middle-requires-clause-room c =
    let z = c.none-branches.ensures in
    let u = root_first _ c.requires.sides_len _ in
    root_left_room _ _ _ _ _ _ c.requires.line_is c.requires.rest_room _ z _ u

pub with_branch-left-requires-clause-next_le_after : goal.with_branch-left-requires-clause-next_le_after
with_branch-left-requires-clause-next_le_after c = none_next _ c.none-branches.ensures _

pub with_branch-left-requires-clause-count_bound : goal.with_branch-left-requires-clause-count_bound
with_branch-left-requires-clause-count_bound c = none_few _ c.none-branches.ensures

pub write_half-after-requires-clause-room : goal.write_half-after-requires-clause-room
write_half-after-requires-clause-room c =
    let z = c.none-branches.ensures in
    let u = root_first _ c.requires.sides_len _ in
    let middle = c.write_half-middle.ensures in
    let y = root_left _ _ _ _ _ _ c.requires.line_is c.requires.rest_room _ z _ u _ _ _ middle.writes c.with_branch-left.ensures in
    let v = root_first _ (root_length _ c.requires.sides_len _ _ middle.sides_kept) _ in
    root_right_room _ _ _ _ _ _ _ _ y _ v

pub with_branch-both-requires-clause-next_le_after : goal.with_branch-both-requires-clause-next_le_after
with_branch-both-requires-clause-next_le_after c = writes_on _ _ _ _ _ _ c.write_half-after.ensures.writes

pub with_branch-both-requires-clause-count_bound : goal.with_branch-both-requires-clause-count_bound
with_branch-both-requires-clause-count_bound c =
    let z = c.none-branches.ensures in
    let u = root_first _ c.requires.sides_len _ in
    let middle = c.write_half-middle.ensures in
    let y = root_left _ _ _ _ _ _ c.requires.line_is c.requires.rest_room _ z _ u _ _ _ middle.writes c.with_branch-left.ensures in
    let f = y.few in
    omega arith

pub write_node-requires : goal.write_node-requires
write_node-requires c =
    let z = c.none-branches.ensures in
    let u = root_first _ c.requires.sides_len _ in
    let middle = c.write_half-middle.ensures in
    let y = root_left _ _ _ _ _ _ c.requires.line_is c.requires.rest_room _ z _ u _ _ _ middle.writes c.with_branch-left.ensures in
    let v = root_first _ (root_length _ c.requires.sides_len _ _ middle.sides_kept) _ in
    let x = root_right _ _ _ _ _ _ _ _ y _ v _ _ _ c.write_half-after.ensures.writes c.with_branch-both.ensures in
    root_top_room _ _ _ _ _ _ _ x

pub returns : goal.returns
returns c =
    let z = c.none-branches.ensures in
    let u = root_first _ c.requires.sides_len _ in
    let middle = c.write_half-middle.ensures in
    let y = root_left _ _ _ _ _ _ c.requires.line_is c.requires.rest_room _ z _ u _ _ _ middle.writes c.with_branch-left.ensures in
    let v = root_first _ (root_length _ c.requires.sides_len _ _ middle.sides_kept) _ in
    let x = root_right _ _ _ _ _ _ _ _ y _ v _ _ _ c.write_half-after.ensures.writes c.with_branch-both.ensures in
    root_done _ _ _ _ _ _ _ x _ _
    (rw (read_is c.args.path.now c.args.level c.index-path-level.result (path_has _ _ _ c.requires.path_from)) at c.write_node.ensures)
