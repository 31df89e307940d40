-- `building::insert_in_place` meets its contract; the laws that it needs are in InsertLaws.
use Rattle.insertion.proofs.InsertLaws.{build_walk, build_growing, held_fits, build_grown}
use Rattle.insertion.proofs.building.insert_in_place.Goals as goal

pub entries_below-held-requires : goal.entries_below-held-requires
entries_below-held-requires c = search build_walk

pub grow_path-requires : goal.grow_path-requires
grow_path-requires c = search build_growing

pub overflow_add-result : goal.overflow_add-result
overflow_add-result c = search held_fits

pub returns : goal.returns
returns c = search build_grown
