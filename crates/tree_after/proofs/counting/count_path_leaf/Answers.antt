-- `counting::count_path_leaf` meets its contract; its returns are in PathCount.
use Rattle.tree_after.proofs.PathCount.{leaf_counted, leaf_uncounted}
use Rattle.tree_after.proofs.PathLaws.{read_is}
use Rattle.tree_after.proofs.PathLeaf.{leaf_in}
use Rattle.tree_after.proofs.counting.count_path_leaf.Goals as goal

pub gather_with-leaf-requires : goal.gather_with-leaf-requires
gather_with-leaf-requires c =
    let p = rw (read_is c.args.path.now 0 c.index-path-0.result c.requires.room) at c.part_at.ensures.result_value in
    search (leaf_in, p)

pub returns-then-is_kept : goal.returns-then-is_kept
returns-then-is_kept c =
    let p = rw (read_is c.args.path.now 0 c.index-path-0.result c.requires.room) at c.part_at.ensures.result_value in
    search (leaf_counted, p)

pub returns-else-is_kept : goal.returns-else-is_kept
returns-else-is_kept c =
    let p = rw (read_is c.args.path.now 0 c.index-path-0.result c.requires.room) at c.part_at.ensures.result_value in
    search (leaf_uncounted, p)
