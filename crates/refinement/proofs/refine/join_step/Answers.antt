-- `refine::join_step` meets its contract; the laws that it needs are in RefineLoops.
use Rattle.refinement.proofs.RefineLoops.{step_done, pair_first}
use Rattle.refinement.proofs.refine.join_step.Goals as goal

pub returns-in_err-i : goal.returns-in_err-i
returns-in_err-i c = search (step_done, c.in_err-i.was)

pub join_pair-requires-clause-next_pair : goal.join_pair-requires-clause-next_pair
join_pair-requires-clause-next_pair c = search (pair_first, c.in_ok-i.was)
