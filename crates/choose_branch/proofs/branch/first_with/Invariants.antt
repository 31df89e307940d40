-- `branch::first_with` meets its contract; its loop is in FirstLoop.
use lib.ListN.{length}
use Rattle.choose_branch.proofs.FirstLoop.{Looking}
use Rattle.choose_branch.proofs.branch.first_with.Given as goal

abbrev pub invariant-loop-place : goal.invariant-loop-place
invariant-loop-place l = Looking l.m l.k l.c (length l.part-items) l.place
