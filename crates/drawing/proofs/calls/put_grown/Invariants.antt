-- `calls::put_grown` meets its contract; its loop is in GrowLoop.
use Rattle.drawing.proofs.GrowLoop.{Growing}
use Rattle.drawing.proofs.calls.put_grown.Given as goal

abbrev pub invariant-loop-i : goal.invariant-loop-i
invariant-loop-i l = Growing l.list l.n l.c l.initial.out l.out l.i
