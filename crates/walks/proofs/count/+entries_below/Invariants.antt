-- `count::entries_below` meets its contract, with the level as its measure; its loop is in WalkLoop and CountWalk.
use lib.ListN.{length}
use Rattle.walks.proofs.CountWalk.{CountHeld}
use Rattle.walks.proofs.count.+entries_below.Given as goal

abbrev pub invariant-loop-part : goal.invariant-loop-part
invariant-loop-part l = CountHeld l.level l.m l.lo l.k (length l.part-items) l.part-index l.low l.sum

abbrev pub decreases-entries_below : goal.decreases-entries_below
decreases-entries_below l = l.level
