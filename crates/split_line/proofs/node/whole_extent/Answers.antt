-- `node::whole_extent` meets its contract.
use Rattle.split_line.proofs.ExtentsLaws.{node_extent, whole_is}
use Rattle.split_line.proofs.node.whole_extent.Goals as goal

pub extent_under-requires : goal.extent_under-requires
extent_under-requires c = search node_extent

pub returns : goal.returns
returns c = search whole_is
