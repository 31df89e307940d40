-- `polygon_refine::drop_or_join` meets its contract; the laws that it needs are in PairLoops.
use Rattle.refinement.proofs.PairLoops.{nested_start, nested_second, nested_first, nested_on, nested_end}
use Rattle.refinement.proofs.polygon_refine.drop_or_join.Goals as goal

pub loop-i-init : goal.loop-i-init
loop-i-init c = search nested_start

pub returns-then-is_within : goal.returns-then-is_within
returns-then-is_within c = search nested_second

pub returns-then-is_within-2 : goal.returns-then-is_within-2
returns-then-is_within-2 c = search nested_first

pub loop-j-preserved : goal.loop-j-preserved
loop-j-preserved c = search nested_on

pub returns : goal.returns
returns c = search nested_end
