-- `planning::line_at` meets its contract; the laws that it needs are in NodeBounds and LineLaws.
use Prim.Native.Nat.{◌-◌}
use Rattle.tree_after.proofs.PathLaws.{read_is, read_line}
use Rattle.insertion.proofs.NodeBounds.{full_level, full_ends, below_level}
use Rattle.insertion.proofs.LineLaws.{leaf_ready, leaf_found, node_ready, node_found, below_split}
use Rattle.insertion.proofs.planning.line_at.Goals as goal

pub part_at-requires : goal.part_at-requires
part_at-requires c =
    rw (read_is c.args.path.now c.args.n c.index-path-n.result (full_level _ _ _ _ _ c.requires)) (search full_ends)

pub leaf_line-requires : goal.leaf_line-requires
leaf_line-requires c =
    let p = rw (read_is c.args.path.now c.args.n c.index-path-n.result (full_level _ _ _ _ _ c.requires)) at c.part_at.ensures.result_value in
    leaf_ready _ _ _ _ _ c.requires c.if-n-eq0.true _ p

pub returns-then-n-eq0 : goal.returns-then-n-eq0
returns-then-n-eq0 c =
    let p = rw (read_is c.args.path.now c.args.n c.index-path-n.result (full_level _ _ _ _ _ c.requires)) at c.part_at.ensures.result_value in
    leaf_found _ _ _ _ _ c.requires c.if-n-eq0.true _ p _ c.leaf_line.ensures

pub unwrap-below-requires : goal.unwrap-below-requires
unwrap-below-requires c =
    rw (read_is c.args.path.now (c.args.n - 1) c.index-path-n-3.result (below_level _ _ _ _ _ c.requires c.if-n-eq0.false)) (search below_split)

pub node_line-requires : goal.node_line-requires
node_line-requires c =
    let h = full_level _ _ _ _ _ c.requires in
    rw (read_is c.args.path.now c.args.n c.index-path-n.result h, read_is c.args.path.now c.args.n c.index-path-n-2.result h) (search node_ready)

pub returns : goal.returns
returns c =
    let h = full_level _ _ _ _ _ c.requires in
    let b = read_line _ _ _ (below_level _ _ _ _ _ c.requires c.if-n-eq0.false) _ c.unwrap-below.ensures in
    let l = rw (read_is c.args.path.now c.args.n c.index-path-n.result h, read_is c.args.path.now c.args.n c.index-path-n-2.result h) at c.node_line.ensures in
    node_found _ _ _ _ _ c.requires c.if-n-eq0.false _ _ b l
