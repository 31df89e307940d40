-- `candidates::count_sides` meets its contract; its loop is in CandidateLoops.
use Rattle.split_line.proofs.CandidateLoops.{AtCount}
use Rattle.split_line.proofs.candidates.count_sides.Given as goal

abbrev pub invariant-loop-r : goal.invariant-loop-r
invariant-loop-r l = AtCount l.extents l.line l.r-index l.counts
