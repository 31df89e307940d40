-- `node::node_line` meets its contract.
use Rattle.split_line.proofs.NodeLaws.{node_line_is}
use Rattle.split_line.proofs.node.node_line.Goals as goal

pub returns : goal.returns
returns c = search node_line_is
