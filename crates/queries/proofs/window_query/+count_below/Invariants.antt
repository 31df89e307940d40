-- `window_query::count_below` meets its contract, with the level as its measure; its loop is in WalkLoop and WindowWalk.
use lib.ListN.{length}
use Rattle.queries.proofs.WindowWalk.{CountLoop}
use Rattle.queries.proofs.window_query.+count_below.Given as goal

abbrev pub invariant-loop-part : goal.invariant-loop-part
invariant-loop-part l = CountLoop l.w l.level l.m l.lo l.k (length l.part-items) l.part-index l.low l.so_far

abbrev pub decreases-count_below : goal.decreases-count_below
decreases-count_below l = l.level
