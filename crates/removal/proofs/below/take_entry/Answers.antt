-- `below::take_entry` meets its contract; its ways are in TakeReturns.
use Rattle.removal.proofs.TakeReturns.{has_item, few_items, take_last, take_entry}
use Rattle.removal.proofs.below.take_entry.Goals as goal

pub returns-then-leaf-eq1 : goal.returns-then-leaf-eq1
returns-then-leaf-eq1 c = search take_last

pub without_entry-requires-clause-i_lt_count : goal.without_entry-requires-clause-i_lt_count
without_entry-requires-clause-i_lt_count c = search has_item

pub without_entry-requires-clause-count_bound : goal.without_entry-requires-clause-count_bound
without_entry-requires-clause-count_bound c = search few_items

pub returns : goal.returns
returns c = search take_entry
