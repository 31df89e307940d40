-- `leaf::leaf_sums` meets its contract; its loop is in SumLaws.
use Rattle.walks.proofs.LeafScans.{leaf_turn, leaf_end}
use Rattle.split_line.proofs.SumLaws.{sum_start, sum_small, sum_again, sum_last, sum_end}
use Rattle.split_line.proofs.leaf.leaf_sums.Goals as goal

pub loop-e-init : goal.loop-e-init
loop-e-init c = search sum_start

pub add-sums-requires : goal.add-sums-requires
add-sums-requires c =
    let k = leaf_turn _ _ _ c.into_iter-e-iterator.result c.loop-e.e-iterator c.next.new.self c.entries-e-items.ensures
    c.into_iter-e-iterator.ensures.into_iter_gives c.loop-e.yielded_by c.in-Some.e c.in-Some.ensures.steps in
    search (sum_small, k)

pub loop-e-preserved : goal.loop-e-preserved
loop-e-preserved c =
    let k = leaf_turn _ _ _ c.into_iter-e-iterator.result c.loop-e.e-iterator c.next.new.self c.entries-e-items.ensures
    c.into_iter-e-iterator.ensures.into_iter_gives c.loop-e.yielded_by c.in-Some.e c.in-Some.ensures.steps in
    rw k.one_more (search (sum_again, k))

pub add-requires : goal.add-requires
add-requires c = search sum_last

pub returns : goal.returns
returns c =
    let k = leaf_end _ _ _ c.into_iter-e-iterator.result c.loop-e.e-iterator c.next.new.self c.entries-e-items.ensures
    c.into_iter-e-iterator.ensures.into_iter_gives c.loop-e.yielded_by c.in-None.ensures.steps in
    search (sum_end, k)
