-- `off_path::copy_below` meets its contract, with the level as its measure; its loop is in CopyBelow.
use lib.ListN.{length}
use Rattle.tree_after.proofs.CopyBelow.{CopyLoop}
use Rattle.tree_after.proofs.off_path.+copy_below.Given as goal

abbrev pub invariant-loop-part : goal.invariant-loop-part
invariant-loop-part l = CopyLoop l.level l.m l.lo l.k l.initial.work l.next (length l.part-items) l.part-index l.low l.work l.free l.copy

abbrev pub decreases-copy_below : goal.decreases-copy_below
decreases-copy_below l = l.level
