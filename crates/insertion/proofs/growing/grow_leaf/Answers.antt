-- `growing::grow_leaf` meets its contract.
use Rattle.tree_after.proofs.PathLaws.{read_is}
use Rattle.insertion.proofs.GrowReturns.{leaf_few}
use Rattle.insertion.proofs.growing.grow_leaf.Goals as goal

pub with_entry-requires : goal.with_entry-requires
with_entry-requires c =
    let n = rw (read_is c.args.path.now 0 c.index-path-0.result c.requires.level_in.room) at c.node_at-leaf.ensures in
    search (leaf_few, n)
