-- `candidates::best_line` meets its contract; its loop is in TriedLoop.
use Rattle.split_line.proofs.TriedLoop.{AtBest}
use Rattle.split_line.proofs.candidates.best_line.Given as goal

abbrev pub invariant-loop-r : goal.invariant-loop-r
invariant-loop-r l = AtBest l.extents l.r-index l.best
