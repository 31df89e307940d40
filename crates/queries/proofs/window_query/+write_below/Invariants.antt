-- `window_query::write_below` meets its contract, with the level as its measure; its loop is in WalkLoop and WindowWrite.
use lib.ListN.{length}
use Rattle.queries.proofs.WindowWrite.{WriteLoop}
use Rattle.queries.proofs.window_query.+write_below.Given as goal

abbrev pub invariant-loop-part : goal.invariant-loop-part
invariant-loop-part l = WriteLoop l.w l.level l.m l.lo l.k (length l.part-items) l.initial.list l.at l.part-index l.low l.list l.next

abbrev pub decreases-write_below : goal.decreases-write_below
decreases-write_below l = l.level
