-- `siblings::cut_by_parts` meets its contract; its loop is in SiblingLoop.
use Rattle.choose_branch.proofs.SiblingLoop.{cut_again, cut_over, cut_end}
use Rattle.choose_branch.proofs.siblings.cut_by_parts.Goals as goal

pub returns-in_err-remaining-clause-written : goal.returns-in_err-remaining-clause-written
returns-in_err-remaining-clause-written c = search (cut_over, c.in_err-remaining.ensures)

pub loop-part-preserved : goal.loop-part-preserved
loop-part-preserved c = search (cut_again, c.in_ok-remaining.ensures)

pub returns-clause-written : goal.returns-clause-written
returns-clause-written c = search cut_end
