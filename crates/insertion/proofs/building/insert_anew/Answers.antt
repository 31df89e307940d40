-- `building::insert_anew` meets its contract; the laws that it needs are in InsertLaws.
use Rattle.insertion.proofs.InsertLaws.{build_walk, build_right, build_level, held_fits, build_eight, write_room, put_few, put_fit, build_accepted}
use Rattle.insertion.proofs.building.insert_anew.Goals as goal

pub part_count-room-requires : goal.part_count-room-requires
part_count-room-requires c = search build_right

pub count_tree-requires-clause-level_bound : goal.count_tree-requires-clause-level_bound
count_tree-requires-clause-level_bound c = search build_level

pub returns-then-room-count_tree : goal.returns-then-room-count_tree
returns-then-room-count_tree c = search build_eight

pub entries_below-held-requires : goal.entries_below-held-requires
entries_below-held-requires c = search build_walk

pub write_tree-done-requires-clause-level_bound : goal.write_tree-done-requires-clause-level_bound
write_tree-done-requires-clause-level_bound c = search build_level

pub write_tree-done-requires-clause-tree_room : goal.write_tree-done-requires-clause-tree_room
write_tree-done-requires-clause-tree_room c = write_room _ _ _ _ c.requires.inserting _ c.requires.path_planned _ _ c.count_tree.ensures _ c.part_count-room.ensures c.if-room-count_tree.false _ c.requires.work_len

pub put_tree-requires-clause-parts_bound : goal.put_tree-requires-clause-parts_bound
put_tree-requires-clause-parts_bound c = search put_few

pub put_tree-requires-clause-parts_in_bounds : goal.put_tree-requires-clause-parts_in_bounds
put_tree-requires-clause-parts_in_bounds c = put_fit _ _ _ _ c.requires.inserting _ c.requires.path_planned _ _ c.count_tree.ensures _ c.part_count-room.ensures c.if-room-count_tree.false _ c.requires.work_len _ _ c.write_tree-done.ensures

pub overflow_add-result : goal.overflow_add-result
overflow_add-result c = search held_fits

pub returns : goal.returns
returns c = search build_accepted
