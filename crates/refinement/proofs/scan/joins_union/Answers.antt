-- `scan::joins_union` meets its contract; the laws that it needs are in FindLaws.
use Rattle.refinement.proofs.FindLaws.{joins_union_same, joins_union_other}
use Rattle.refinement.proofs.scan.joins_union.Goals as goal

pub returns-then-i-at : goal.returns-then-i-at
returns-then-i-at c = search joins_union_other

pub returns-else-i-at : goal.returns-else-i-at
returns-else-i-at c = search joins_union_same
