-- `extent::extent_in_leaf` meets its contract; its loop is in ExtentWalk.
use Rattle.walks.proofs.LeafScans.{leaf_turn, leaf_end}
use Rattle.split_line.proofs.ExtentWalk.{leaf_start, leaf_miss, leaf_grid, leaf_hit, leaf_end as extent_end}
use Rattle.split_line.proofs.extent.extent_in_leaf.Goals as goal

pub loop-e-init : goal.loop-e-init
loop-e-init c = search leaf_start

pub grow-requires : goal.grow-requires
grow-requires c =
    let k = leaf_turn _ _ _ c.into_iter-e-iterator.result c.loop-e.e-iterator c.next.new.self c.entries-e-items.ensures
    c.into_iter-e-iterator.ensures.into_iter_gives c.loop-e.yielded_by c.in-Some.e c.in-Some.ensures.steps in
    search (leaf_grid, k)

pub loop-e-preserved-then-on_all : goal.loop-e-preserved-then-on_all
loop-e-preserved-then-on_all c =
    let k = leaf_turn _ _ _ c.into_iter-e-iterator.result c.loop-e.e-iterator c.next.new.self c.entries-e-items.ensures
    c.into_iter-e-iterator.ensures.into_iter_gives c.loop-e.yielded_by c.in-Some.e c.in-Some.ensures.steps in
    rw k.one_more (search (leaf_hit, k))

pub loop-e-preserved : goal.loop-e-preserved
loop-e-preserved c =
    let k = leaf_turn _ _ _ c.into_iter-e-iterator.result c.loop-e.e-iterator c.next.new.self c.entries-e-items.ensures
    c.into_iter-e-iterator.ensures.into_iter_gives c.loop-e.yielded_by c.in-Some.e c.in-Some.ensures.steps in
    rw k.one_more (search (leaf_miss, k))

pub returns : goal.returns
returns c =
    let k = leaf_end _ _ _ c.into_iter-e-iterator.result c.loop-e.e-iterator c.next.new.self c.entries-e-items.ensures
    c.into_iter-e-iterator.ensures.into_iter_gives c.loop-e.yielded_by c.in-None.ensures.steps in
    search (extent_end, k)
