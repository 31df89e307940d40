-- `numbers::copy` meets its contract; its loop is in CopyLoop.
use Rattle.geometry.proofs.CopyLoop.{Copying}
use Rattle.geometry.proofs.numbers.copy.Given as goal

abbrev pub invariant-loop-i : goal.invariant-loop-i
invariant-loop-i l = Copying l.from l.n l.initial.to l.to l.i
