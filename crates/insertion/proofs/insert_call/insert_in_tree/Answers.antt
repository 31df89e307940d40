-- `insert_call::insert_in_tree` meets its contract; the laws that it needs are in InsertReturns.
use Rattle.insertion.proofs.InsertReturns.{into_held}
use Rattle.insertion.proofs.insert_call.insert_in_tree.Goals as goal

pub returns-then-is_held : goal.returns-then-is_held
returns-then-is_held c = search into_held
