-- `polygon_refine::refine_polygon` meets its contract; the laws that it needs are in PairLoops.
use Rattle.refinement.proofs.PairLoops.{union_inside, join_less}
use Rattle.refinement.proofs.polygon_refine.refine_polygon.Goals as goal

pub first_near-from-requires-clause-i_lt_count : goal.first_near-from-requires-clause-i_lt_count
first_near-from-requires-clause-i_lt_count c = search union_inside

pub loop-next-smaller : goal.loop-next-smaller
loop-next-smaller c = search join_less
