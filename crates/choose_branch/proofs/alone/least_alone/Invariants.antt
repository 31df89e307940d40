-- `alone::least_alone` meets its contract; its loop is in AloneLoops.
use lib.ListN.{length}
use Rattle.choose_branch.proofs.AloneLoops.{AloneAll}
use Rattle.choose_branch.proofs.alone.least_alone.Given as goal

abbrev pub invariant-loop-part : goal.invariant-loop-part
invariant-loop-part l = AloneAll l.c l.m l.k (length l.part-items) l.least l.part-index
