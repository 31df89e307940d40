-- `node::is_kept` meets its contract.
use Rattle.tree_after.proofs.BranchLaws.{kept_empty, kept_some}
use Rattle.tree_after.proofs.node.is_kept.Goals as goal

pub returns-then-count-ne0 : goal.returns-then-count-ne0
returns-then-count-ne0 c = search kept_some

pub returns-else-count-ne0 : goal.returns-else-count-ne0
returns-else-count-ne0 c = search kept_empty
