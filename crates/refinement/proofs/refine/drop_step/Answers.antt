-- `refine::drop_step` meets its contract; the laws that it needs are in RefineLoops and FindLaws.
use Rattle.refinement.proofs.FindLaws.{below_found}
use Rattle.refinement.proofs.RefineLoops.{step_drop, join_anew}
use Rattle.refinement.proofs.refine.drop_step.Goals as goal

pub drop_rect-requires-clause-i_lt_n : goal.drop_rect-requires-clause-i_lt_n
drop_rect-requires-clause-i_lt_n c = search below_found

pub returns-in-Some : goal.returns-in-Some
returns-in-Some c = search step_drop

pub join_step-requires-clause-unjoined_before : goal.join_step-requires-clause-unjoined_before
join_step-requires-clause-unjoined_before c = search join_anew
