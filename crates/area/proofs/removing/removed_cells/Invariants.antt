-- `removing::removed_cells` meets its contract; its loop is in RemovedLoop.
use Rattle.area.proofs.RemovedLoop.{Removing}
use Rattle.area.proofs.removing.removed_cells.Given as goal

abbrev pub invariant-loop-j : goal.invariant-loop-j
invariant-loop-j l = Removing l.rects l.k l.n l.j l.sum
