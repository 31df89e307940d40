-- `node::put_remaining` meets its contract.
use Rattle.tree_after.proofs.RemainingNode.{few_of_part, remaining_put}
use Rattle.tree_after.proofs.node.put_remaining.Goals as goal

pub of_rects-requires : goal.of_rects-requires
of_rects-requires c = few_of_part _ _ c.polygon_in.ensures c.requires.node_part

pub returns : goal.returns
returns c = search remaining_put
