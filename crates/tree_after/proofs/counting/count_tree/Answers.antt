-- `counting::count_tree` meets its contract; its returns are in TreeLaws.
use lib.ListN.{replicate, length-replicate}
use Rattle.geometry.specs.declared.rect.Line.TheVariants.{AtX}
use Rattle.geometry.specs.declared.rect.Side.TheVariants.{Left, Right}
use Rattle.tree_after.proofs.FrontLaws.{root_none, root_first, root_length}
use Rattle.tree_after.proofs.PathLaws.{read_unsplit, read_line, path_has}
use Rattle.tree_after.proofs.PathCount.{count_few}
use Rattle.tree_after.proofs.TreeLaws.{whole_tree_count, split_tree_count}
use Rattle.tree_after.proofs.counting.count_tree.Goals as goal

pub returns-in_default : goal.returns-in_default
returns-in_default c = whole_tree_count _ _ _ _ _ (read_unsplit _ _ _ (path_has _ _ _ c.requires.path_from) c.in_default.is) (rw (root_none _ (length-replicate 257 (Left (AtX 0)))) at c.count_half.ensures.value)

pub capped_sum-requires-clause-a_le_count_limit : goal.capped_sum-requires-clause-a_le_count_limit
capped_sum-requires-clause-a_le_count_limit c = count_few _ _ _ c.count_half-left.ensures.value

pub capped_sum-requires-clause-b_le_count_limit : goal.capped_sum-requires-clause-b_le_count_limit
capped_sum-requires-clause-b_le_count_limit c = count_few _ _ _ c.count_half-right.ensures.value

pub returns : goal.returns
returns c =
    let left = c.count_half-left.ensures in
    let n = length-replicate 257 (Left (AtX 0)) in
    let ys = c.count_half-left.new.sides in
    let k = root_length (replicate 257 (Left (AtX 0))) n (Left c.in-Some.line) ys left.sides_kept in
    split_tree_count _ _ _ _ _ _ _ _ _ _ _ (read_line _ _ _ (path_has _ _ _ c.requires.path_from) _ c.in-Some.is) (root_first (replicate 257 (Left (AtX 0))) n (Left c.in-Some.line)) left.value
    (root_first ys k (Right c.in-Some.line)) c.count_half-right.ensures.value c.capped_sum.ensures c.capped_sum-2.ensures
