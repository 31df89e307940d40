-- `least::find_least` meets its contract; its loop is in LeastLoops.
use lib.ListN.{length}
use Rattle.choose_branch.proofs.LeastLoops.{ComparingAll}
use Rattle.choose_branch.proofs.least.find_least.Given as goal

abbrev pub invariant-loop-branch : goal.invariant-loop-branch
invariant-loop-branch l = ComparingAll l.c l.m l.k (length l.part-items) l.best l.branch
