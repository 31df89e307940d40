-- `node::Branches::none` meets its contract.
use Rattle.tree_after.proofs.RowLaws.{none_branches}
use Rattle.tree_after.proofs.node.Branches.none.Goals as goal

pub returns : goal.returns
returns c = search none_branches
