-- `store::store_node` meets its contract; what it writes is in NodeStore.
use Rattle.layout.proofs.NodeStore.{node_stored}
use Rattle.layout.proofs.store.store_node.Goals as goal

pub returns : goal.returns
returns c = search node_stored
