-- `planning::split_count` meets its contract; its loop is in SplitCount.
use Rattle.insertion.proofs.SplitCount.{Counting}
use Rattle.insertion.proofs.planning.split_count.Given as goal

abbrev pub invariant-loop-n : goal.invariant-loop-n
invariant-loop-n l = Counting l.level l.path l.m l.n
