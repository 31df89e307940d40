-- The iterator of `entry_list` yields a leaf's entries one after another.
use Rattle.layout.proofs.EntryLists.{numbered_end, numbered_next, numbered_fewer}
use Rattle.layout.proofs.entry_list.EntriesIterator.next.Goals as goal

pub returns-in_default-clause-steps : goal.returns-in_default-clause-steps
returns-in_default-clause-steps c = search numbered_end

pub returns-clause-steps : goal.returns-clause-steps
returns-clause-steps c = search numbered_next

pub returns-clause-goes : goal.returns-clause-goes
returns-clause-goes c = search numbered_fewer
