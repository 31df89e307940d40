-- `node::group_extents` meets its contract; its loop is in GroupLoop.
use Prim.Native.Nat.{◌-◌}
use lib.ListN.{length}
use Rattle.split_line.specs.ExtentRow.{extents_of}
use Rattle.split_line.proofs.GroupLoop.{AtBranch}
use Rattle.split_line.proofs.node.group_extents.Given as goal

abbrev pub invariant-loop-i : goal.invariant-loop-i
invariant-loop-i l = AtBranch (l.level - 1) l.m l.level l.lo l.k l.place l.below l.c (length l.part-items) l.i l.low (extents_of l.list)
