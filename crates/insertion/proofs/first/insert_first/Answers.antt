-- `first::insert_first` meets its contract; its laws are in FirstLaws.
use Rattle.insertion.proofs.FirstLaws.{x_room, y_room, first_long, first_room, empty_room, first_done}
use Rattle.insertion.proofs.first.insert_first.Goals as goal

pub overflow_add-r : goal.overflow_add-r
overflow_add-r c = search x_room

pub overflow_add-r-2 : goal.overflow_add-r-2
overflow_add-r-2 c = search y_room

pub with_entry-requires : goal.with_entry-requires
with_entry-requires c = search empty_room

pub put_node-requires : goal.put_node-requires
put_node-requires c = search first_room

pub put_tree-requires-clause-parts_in_bounds : goal.put_tree-requires-clause-parts_in_bounds
put_tree-requires-clause-parts_in_bounds c = search first_long

pub returns : goal.returns
returns c = search first_done
