-- `refine::refine_step` meets its contract; the laws that it needs are in RefineLoops.
use Rattle.refinement.proofs.RefineLoops.{known_contained, known_union}
use Rattle.refinement.proofs.refine.refine_step.Goals as goal

pub drop_step-requires-clause-uncontained_before : goal.drop_step-requires-clause-uncontained_before
drop_step-requires-clause-uncontained_before c = search known_contained

pub union_step-requires-clause-after_join : goal.union_step-requires-clause-after_join
union_step-requires-clause-after_join c = search known_union
