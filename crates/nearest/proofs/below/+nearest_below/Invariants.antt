-- `nearest_below` meets its contract, with the level as its measure.
use lib.ListN.{length}
use Rattle.nearest.proofs.NearLoop.{NearLoop}
use Rattle.nearest.proofs.below.+nearest_below.Given as goal

abbrev pub invariant-loop-part : goal.invariant-loop-part
invariant-loop-part l = NearLoop l.c l.level l.m l.lo l.k (length l.part-items) l.initial.best l.part-index l.low l.best

abbrev pub decreases-nearest_below : goal.decreases-nearest_below
decreases-nearest_below l = l.level
