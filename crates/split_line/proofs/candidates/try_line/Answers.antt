-- `candidates::try_line` meets its contract.
use borrow.Author.Tests.{not-true, not-false}
use Rattle.split_line.proofs.TriedLoop.{no_fit, try_none, try_kept, try_first}
use Rattle.split_line.proofs.candidates.try_line.Goals as goal

pub returns-then-not-fit-clause-value : goal.returns-then-not-fit-clause-value
returns-then-not-fit-clause-value c = search (no_fit, not-true)

pub returns-in-Some-clause-value : goal.returns-in-Some-clause-value
returns-in-Some-clause-value c = search (try_kept, not-true, not-false)

pub returns-in_default-clause-value : goal.returns-in_default-clause-value
returns-in_default-clause-value c = search (try_first, not-false)

pub returns-in_default-2-clause-value : goal.returns-in_default-2-clause-value
returns-in_default-2-clause-value c = search (try_none, not-false)
