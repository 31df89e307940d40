-- `node::Branches::with_branch` meets its contract.
use Rattle.tree_after.proofs.RowLaws.{with_branch_same, with_branch_more}
use Rattle.tree_after.proofs.node.Branches.with_branch.Goals as goal

pub returns-then-after-self : goal.returns-then-after-self
returns-then-after-self c = search with_branch_same

pub returns : goal.returns
returns c = search with_branch_more
