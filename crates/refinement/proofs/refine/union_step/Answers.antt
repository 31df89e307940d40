-- `refine::union_step` meets its contract; the laws that it needs are in RefineLoops and FindLaws.
use Rattle.refinement.proofs.FindLaws.{below_found, union_inside}
use Rattle.refinement.proofs.RefineLoops.{step_union_drop, join_on, pair_union}
use Rattle.refinement.proofs.refine.union_step.Goals as goal

pub drop_rect-requires-clause-i_lt_n : goal.drop_rect-requires-clause-i_lt_n
drop_rect-requires-clause-i_lt_n c = search below_found

pub returns-in-Some : goal.returns-in-Some
returns-in-Some c = search step_union_drop

pub union_partner-requires-clause-at_lt_n : goal.union_partner-requires-clause-at_lt_n
union_partner-requires-clause-at_lt_n c = search union_inside

pub join_pair-requires-clause-next_pair : goal.join_pair-requires-clause-next_pair
join_pair-requires-clause-next_pair c = search pair_union

pub join_step-requires-clause-unjoined_before : goal.join_step-requires-clause-unjoined_before
join_step-requires-clause-unjoined_before c = search join_on
