-- `store::store_rects` meets its contract.
use Rattle.layout.proofs.NodeStore.{rects_stored}
use Rattle.layout.proofs.store.store_rects.Goals as goal

pub returns : goal.returns
returns c = search rects_stored
