-- `child::child_with` meets its contract; its loop is in ChildLoop.
use Rattle.walks.proofs.ChildLoop.{Seeking}
use Rattle.walks.proofs.child.child_with.Given as goal

abbrev pub invariant-loop-at : goal.invariant-loop-at
invariant-loop-at l = Seeking l.m l.lo l.k l.c l.part-items l.at l.low
