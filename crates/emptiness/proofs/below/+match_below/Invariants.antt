-- `below::match_below` meets its contract, with the level as its measure.
use lib.ListN.{length}
use Rattle.emptiness.proofs.MatchLoop.{MatchLoop}
use Rattle.emptiness.proofs.below.+match_below.Given as goal

abbrev pub invariant-loop-part : goal.invariant-loop-part
invariant-loop-part l = MatchLoop l.w l.level l.m l.lo l.k l.visits (length l.part-items) l.part-index l.low l.so_far

abbrev pub decreases-match_below : goal.decreases-match_below
decreases-match_below l = l.level
