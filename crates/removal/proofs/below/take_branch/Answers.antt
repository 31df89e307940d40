-- `below::take_branch` meets its contract; its ways are in TakeReturns.
use Rattle.removal.proofs.TakeReturns.{has_item, few_items, take_last, take_branch}
use Rattle.removal.proofs.below.take_branch.Goals as goal

pub returns-then-node-eq1 : goal.returns-then-node-eq1
returns-then-node-eq1 c = search take_last

pub without_child-requires-clause-i_lt_count : goal.without_child-requires-clause-i_lt_count
without_child-requires-clause-i_lt_count c = search has_item

pub without_child-requires-clause-count_bound : goal.without_child-requires-clause-count_bound
without_child-requires-clause-count_bound c = search few_items

pub returns : goal.returns
returns c = search take_branch
