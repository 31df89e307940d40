-- `on_path::write_path_leaf` meets its contract; the leaf's laws are in PathLeaf.
use Rattle.tree_after.proofs.PathLaws.{read_is}
use Rattle.tree_after.proofs.PathLeaf.{leaf_in, leaf_top_room, leaf_writes}
use Rattle.tree_after.proofs.on_path.write_path_leaf.Goals as goal

pub gather_with-leaf-requires : goal.gather_with-leaf-requires
gather_with-leaf-requires c =
    let p = rw (read_is c.args.path.now 0 c.index-path-0.result c.requires.path_node.room) at c.part_at.ensures.result_value in
    search (leaf_in, p)

pub write_node-requires : goal.write_node-requires
write_node-requires c =
    let p = rw (read_is c.args.path.now 0 c.index-path-0.result c.requires.path_node.room) at c.part_at.ensures.result_value in
    search (leaf_top_room, p)

pub returns : goal.returns
returns c =
    let p = rw (read_is c.args.path.now 0 c.index-path-0.result c.requires.path_node.room) at c.part_at.ensures.result_value in
    let x = rw (read_is c.args.path.now 0 c.index-path-0-2.result c.requires.path_node.room) at c.write_node.ensures in
    search (leaf_writes, p, x)
