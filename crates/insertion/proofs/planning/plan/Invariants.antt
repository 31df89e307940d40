-- `planning::plan` meets its contract; its loop is in PlanLoop.
use Rattle.insertion.proofs.PlanLoop.{Planning}
use Rattle.insertion.proofs.planning.plan.Given as goal

abbrev pub invariant-loop-n : goal.invariant-loop-n
invariant-loop-n l = Planning l.level l.initial.path l.m l.splits l.c l.n l.path
