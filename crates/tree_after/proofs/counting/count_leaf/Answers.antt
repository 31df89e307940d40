-- `counting::count_leaf` meets its contract.
use Rattle.tree_after.proofs.CountLaws.{leaf_whole, leaf_some, leaf_dropped}
use Rattle.tree_after.proofs.counting.count_leaf.Goals as goal

pub returns-then-sides-eq0 : goal.returns-then-sides-eq0
returns-then-sides-eq0 c = search leaf_whole

pub returns-then-any_remaining : goal.returns-then-any_remaining
returns-then-any_remaining c = search leaf_some

pub returns-else-any_remaining : goal.returns-else-any_remaining
returns-else-any_remaining c = search leaf_dropped
