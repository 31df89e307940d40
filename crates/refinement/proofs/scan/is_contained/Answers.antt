-- `scan::is_contained` meets its contract; the laws that it needs are in FindLaws.
use Rattle.refinement.proofs.FindLaws.{contained_before, contained_after}
use Rattle.refinement.proofs.scan.is_contained.Goals as goal

pub returns-then-is_within_any : goal.returns-then-is_within_any
returns-then-is_within_any c = search contained_before

pub returns-else-is_within_any : goal.returns-else-is_within_any
returns-else-is_within_any c = search contained_after
