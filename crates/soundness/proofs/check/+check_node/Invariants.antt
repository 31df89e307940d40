-- `check::check_node` meets its contract, with the level as its measure; its loop is in CheckLoops.
use Rattle.soundness.proofs.CheckLoops.{Rowing}
use Rattle.soundness.proofs.check.+check_node.Given as goal

abbrev pub invariant-loop-j : goal.invariant-loop-j
invariant-loop-j l = Rowing l.level l.m l.lo l.k l.ks l.low l.sum l.j-index

abbrev pub decreases-check_node : goal.decreases-check_node
decreases-check_node l = l.level
