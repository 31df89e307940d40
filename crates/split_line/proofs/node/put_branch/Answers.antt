-- `node::put_branch` meets its contract.
use Rattle.split_line.proofs.BranchPuts.{room_first, room_second, room_one, put_halves, put_whole}
use Rattle.split_line.proofs.node.put_branch.Goals as goal

pub push-requires : goal.push-requires
push-requires c = search room_first

pub push-requires-then-halved : goal.push-requires-then-halved
push-requires-then-halved c = search room_second

pub returns-then-halved : goal.returns-then-halved
returns-then-halved c = search put_halves

pub push-requires-else-halved : goal.push-requires-else-halved
push-requires-else-halved c = search room_one

pub returns-else-halved : goal.returns-else-halved
returns-else-halved c = search put_whole
