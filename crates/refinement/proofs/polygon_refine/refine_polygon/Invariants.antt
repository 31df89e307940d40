-- `polygon_refine::refine_polygon` meets its contract; the laws that it needs are in PairLoops.
use Rattle.geometry.specs.Numbers.{rects_of}
use Rattle.refinement.proofs.PairLoops.{Refines}
use Rattle.refinement.proofs.polygon_refine.refine_polygon.Given as goal

abbrev pub invariant-loop-next : goal.invariant-loop-next
invariant-loop-next l = Refines (rects_of l.initial.q) l.q l.from

abbrev pub decreases-loop-next : goal.decreases-loop-next
decreases-loop-next l = l.q.count
