-- `extent::extent_under` meets its contract, with the level as its measure; its loop is in ExtentWalk.
use lib.ListN.{length}
use Rattle.split_line.proofs.ExtentWalk.{ExtentLoop}
use Rattle.split_line.proofs.extent.+extent_under.Given as goal

abbrev pub invariant-loop-part : goal.invariant-loop-part
invariant-loop-part l = ExtentLoop l.sides l.level l.m l.lo l.k (length l.part-items) l.part-index l.low l.extent

abbrev pub decreases-extent_under : goal.decreases-extent_under
decreases-extent_under l = l.level
