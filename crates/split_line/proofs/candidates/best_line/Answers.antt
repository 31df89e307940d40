-- `candidates::best_line` meets its contract; its loop is in TriedLoop.
use Rattle.split_line.proofs.CandidateLoops.{rect_valid}
use Rattle.split_line.proofs.TriedLoop.{best_start, best_again, best_found, best_none}
use Rattle.split_line.proofs.candidates.best_line.Goals as goal

pub loop-r-init : goal.loop-r-init
loop-r-init c = search best_start

pub try_branch-best-requires : goal.try_branch-best-requires
try_branch-best-requires c = search rect_valid

pub loop-r-preserved : goal.loop-r-preserved
loop-r-preserved c = search best_again

pub returns-in-Some : goal.returns-in-Some
returns-in-Some c = search best_found

pub returns-in-None : goal.returns-in-None
returns-in-None c = search best_none
