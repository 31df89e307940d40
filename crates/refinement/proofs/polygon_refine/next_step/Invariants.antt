-- `polygon_refine::next_step` meets its contract; the laws that it needs are in PairLoops.
use Prim.Native.Nat.{◌+◌}
use Rattle.refinement.specs.Pairs.{near}
use Rattle.refinement.proofs.PairLoops.{Rows, Row}
use Rattle.refinement.proofs.polygon_refine.next_step.Given as goal

abbrev pub invariant-loop-i : goal.invariant-loop-i
invariant-loop-i l = Rows near l.p l.i-end l.from l.i (l.i + 1)

abbrev pub invariant-loop-j : goal.invariant-loop-j
invariant-loop-j l = Row near l.p l.i-end l.j-end l.from l.i l.j l.r
