-- `counting::count_node` meets its contract; its returns are in PathCount.
use Rattle.tree_after.proofs.PathCount.{top_count, top_no_count}
use Rattle.tree_after.proofs.counting.count_node.Goals as goal

pub returns-then-is_kept : goal.returns-then-is_kept
returns-then-is_kept c = search top_count

pub returns : goal.returns
returns c = search top_no_count
