-- `store::store_items` meets its contract.
use lib.Seq.{drop-drop}
use Rattle.layout.specs.Loaded.{with_node}
use Rattle.layout.proofs.store.store_items.Goals as goal

pub returns : goal.returns
unfolding with_node
returns c = rw (c.copy_from_slice.ensures.after, drop-drop 27 66 c.args.part.now)
