-- `scan::is_in_union` meets its contract; the laws that it needs are in FindLaws.
use Rattle.refinement.proofs.FindLaws.{in_union_same, in_union_other}
use Rattle.refinement.proofs.scan.is_in_union.Goals as goal

pub returns-then-i-at : goal.returns-then-i-at
returns-then-i-at c = search in_union_other

pub returns-else-i-at : goal.returns-else-i-at
returns-else-i-at c = search in_union_same
