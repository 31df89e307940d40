-- `building::insert_deep` meets its contract; the laws that it needs are in InsertLaws.
use Rattle.insertion.proofs.InsertLaws.{build_room}
use Rattle.insertion.proofs.building.insert_deep.Goals as goal

pub insert_on_path-requires-clause-has_level : goal.insert_on_path-requires-clause-has_level
insert_on_path-requires-clause-has_level c = search build_room
