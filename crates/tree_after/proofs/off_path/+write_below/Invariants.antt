-- `off_path::write_below` meets its contract, with the level as its measure; its loop is in WriteLoop and WriteBelow.
use lib.ListN.{length}
use Rattle.tree_after.proofs.WriteLoop.{WriteLoop}
use Rattle.tree_after.proofs.off_path.+write_below.Given as goal

abbrev pub invariant-loop-part : goal.invariant-loop-part
invariant-loop-part l =
    WriteLoop l.level l.m l.lo l.k l.sides l.initial.work l.next (length l.part-items) l.part-index l.low l.work l.free l.remaining

abbrev pub decreases-write_below : goal.decreases-write_below
decreases-write_below l = l.level
