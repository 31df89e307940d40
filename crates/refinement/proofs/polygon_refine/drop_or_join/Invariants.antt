-- `polygon_refine::drop_or_join` meets its contract; the laws that it needs are in PairLoops.
use Rattle.refinement.specs.Pairs.{nested}
use Rattle.refinement.proofs.PairLoops.{Rows, Row}
use Rattle.refinement.proofs.polygon_refine.drop_or_join.Given as goal

abbrev pub invariant-loop-i : goal.invariant-loop-i
invariant-loop-i l = Rows nested l.p l.i-end l.at l.i l.start

abbrev pub invariant-loop-j : goal.invariant-loop-j
invariant-loop-j l = Row nested l.p l.i-end l.j-end l.at l.i l.j l.r
