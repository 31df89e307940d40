-- `node::write_node` meets its contract; its returns are in BranchLaws.
use borrow.Author.Tests.{not-true, not-false}
use Rattle.tree_after.proofs.BranchLaws.{top_dropped, top_room, top_kept}
use Rattle.tree_after.proofs.node.write_node.Goals as goal

pub returns-then-not-is_kept : goal.returns-then-not-is_kept
returns-then-not-is_kept c = search (top_dropped, not-true)

pub put_node-requires : goal.put_node-requires
put_node-requires c = search (top_room, not-false)

pub returns : goal.returns
returns c = search (top_kept, not-false)
