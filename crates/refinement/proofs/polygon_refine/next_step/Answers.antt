-- `polygon_refine::next_step` meets its contract; the laws that it needs are in PairLoops.
use Rattle.refinement.proofs.PairLoops.{near_second, near_first, near_joins, near_on, near_end}
use Rattle.refinement.proofs.polygon_refine.next_step.Goals as goal

pub returns-then-is_within : goal.returns-then-is_within
returns-then-is_within c = search near_second

pub returns-then-is_within-2 : goal.returns-then-is_within-2
returns-then-is_within-2 c = search near_first

pub drop_or_join-requires-clause-with_value : goal.drop_or_join-requires-clause-with_value
drop_or_join-requires-clause-with_value c = search near_joins

pub loop-j-preserved : goal.loop-j-preserved
loop-j-preserved c = search near_on

pub returns : goal.returns
returns c = search near_end
