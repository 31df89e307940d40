-- `part::zero_behind_items` meets its contract; the laws that it needs are in PartLaws.
use Rattle.layout.proofs.PartLaws.{items_stop, items_last}
use Rattle.layout.proofs.part.zero_behind_items.Goals as goal

pub returns-then-all_zero : goal.returns-then-all_zero
returns-then-all_zero c = search items_last

pub returns-else-all_zero : goal.returns-else-all_zero
returns-else-all_zero c = search items_stop
