-- `refine::join_pair` meets its contract; the laws that it needs are in RefineLoops.
use Rattle.refinement.proofs.RefineLoops.{step_join, pair_after, pair_inside}
use Rattle.refinement.proofs.refine.join_pair.Goals as goal

pub join_rects-requires-clause-i_lt_j : goal.join_rects-requires-clause-i_lt_j
join_rects-requires-clause-i_lt_j c = search pair_after

pub join_rects-requires-clause-j_lt_n : goal.join_rects-requires-clause-j_lt_n
join_rects-requires-clause-j_lt_n c = search pair_inside

pub returns : goal.returns
returns c = search step_join
