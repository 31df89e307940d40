-- `least::least_in` meets its contract; its loop is in LeastLoops.
use Rattle.choose_branch.proofs.LeastLoops.{Comparing}
use Rattle.choose_branch.proofs.least.least_in.Given as goal

abbrev pub invariant-loop-i : goal.invariant-loop-i
invariant-loop-i l = Comparing l.c l.list l.n l.branch l.bounds l.initial.best l.best l.i
