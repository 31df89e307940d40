-- `refine::refine_list` meets its contract; its loop is in RefineLoops.
use Rattle.refinement.proofs.RefineLoops.{Refining}
use Rattle.refinement.proofs.refine.refine_list.Given as goal

abbrev pub invariant-loop-next : goal.invariant-loop-next
invariant-loop-next l = Refining l.initial.list l.n l.list l.m l.s

abbrev pub decreases-loop-next : goal.decreases-loop-next
decreases-loop-next l = l.m
