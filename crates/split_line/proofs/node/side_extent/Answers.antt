-- `node::side_extent` meets its contract.
use Rattle.split_line.proofs.ExtentsLaws.{node_extent, side_hit, side_miss}
use Rattle.split_line.proofs.node.side_extent.Goals as goal

pub extent_under-extent-requires : goal.extent_under-extent-requires
extent_under-extent-requires c = search node_extent

pub returns-then-is_on : goal.returns-then-is_on
returns-then-is_on c = search side_hit

pub returns-else-is_on : goal.returns-else-is_on
returns-else-is_on c = search side_miss
