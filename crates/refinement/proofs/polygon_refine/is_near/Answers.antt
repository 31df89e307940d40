-- `polygon_refine::is_near` meets its contract.
use Rattle.std.proofs.Common.{rules}
use Rattle.refinement.specs.Pairs.{nested, near}
use Rattle.refinement.proofs.polygon_refine.is_near.Goals as goal

pub returns-then-is_within-2 : goal.returns-then-is_within-2
unfolding near nested
returns-then-is_within-2 c = search rules

pub returns-else-is_within-2 : goal.returns-else-is_within-2
unfolding near nested
returns-else-is_within-2 c = search rules
