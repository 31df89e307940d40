-- `counting::count_below` meets its contract, with the level as its measure; its loop is in CountLoop.
use lib.ListN.{length}
use Rattle.tree_after.proofs.CountLoop.{CountLoop}
use Rattle.tree_after.proofs.counting.+count_below.Given as goal

abbrev pub invariant-loop-part : goal.invariant-loop-part
invariant-loop-part l = CountLoop l.level l.m l.lo l.k l.sides (length l.part-items) l.part-index l.low l.nodes

abbrev pub decreases-count_below : goal.decreases-count_below
decreases-count_below l = l.level
