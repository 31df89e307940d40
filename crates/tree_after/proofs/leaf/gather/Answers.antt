-- `leaf::gather` meets its contract; its loop is in LeafLoop.
use native.Mathlib.Omega.{arith}
use Rattle.std.proofs.Common.{rules, tests, ◌∙◌}
use Rattle.std.proofs.lemmas.Iterator.Consumers.{YieldsList-at}
use Rattle.layout.proofs.LoadedLaws.{no_entries}
use Rattle.split_line.specs.Sides.{on_test}
use Rattle.walks.proofs.LeafScans.{leaf_filter}
use Rattle.tree_after.specs.Leaves.{leaf_remaining}
use Rattle.tree_after.proofs.LeafLoop.{gather_small, gather_again, gather_end, gather_few}
use Rattle.tree_after.proofs.leaf.gather.Goals as goal

pub loop-e-init : goal.loop-e-init
loop-e-init c = c.empty-remaining.ensures ∙ no_entries

pub add_entry-requires : goal.add_entry-requires
unfolding on_test leaf_remaining
add_entry-requires c =
    gather_small c.args.sides.now _ c.requires c.loop-e.yielded c.loop-e.e-iterator c.loop-e.yielded_by
    (YieldsList-at c.into_iter-e-iterator.ensures.into_iter_gives
    (leaf_filter (on_test c.args.sides.now) _ _ c.entries.ensures _ c.filter-e-items.result c.filter-e-items.ensures.source
    c.filter-e-items.ensures.closure (λ x b q k. search (rules, tests))))
    c.loop-e.remaining c.loop-e.invariant c.in-Some.e c.next.new.self c.in-Some.ensures.steps

pub overflow_add-remaining : goal.overflow_add-remaining
unfolding on_test leaf_remaining
overflow_add-remaining c =
    let f = gather_small c.args.sides.now _ c.requires c.loop-e.yielded c.loop-e.e-iterator c.loop-e.yielded_by
    (YieldsList-at c.into_iter-e-iterator.ensures.into_iter_gives
    (leaf_filter (on_test c.args.sides.now) _ _ c.entries.ensures _ c.filter-e-items.result c.filter-e-items.ensures.source
    c.filter-e-items.ensures.closure (λ x b q k. search (rules, tests))))
    c.loop-e.remaining c.loop-e.invariant c.in-Some.e c.next.new.self c.in-Some.ensures.steps in
    omega arith

pub loop-e-preserved : goal.loop-e-preserved
unfolding on_test leaf_remaining
loop-e-preserved c =
    gather_again c.args.sides.now _ c.requires c.loop-e.yielded c.loop-e.e-iterator c.loop-e.yielded_by
    (YieldsList-at c.into_iter-e-iterator.ensures.into_iter_gives
    (leaf_filter (on_test c.args.sides.now) _ _ c.entries.ensures _ c.filter-e-items.result c.filter-e-items.ensures.source
    c.filter-e-items.ensures.closure (λ x b q k. search (rules, tests))))
    c.loop-e.remaining c.loop-e.invariant c.in-Some.e c.next.new.self c.in-Some.ensures.steps _ c.add_entry.ensures

pub returns-clause-value : goal.returns-clause-value
unfolding on_test leaf_remaining
returns-clause-value c =
    gather_end c.args.sides.now _ c.requires c.loop-e.yielded c.loop-e.e-iterator c.loop-e.yielded_by
    (YieldsList-at c.into_iter-e-iterator.ensures.into_iter_gives
    (leaf_filter (on_test c.args.sides.now) _ _ c.entries.ensures _ c.filter-e-items.result c.filter-e-items.ensures.source
    c.filter-e-items.ensures.closure (λ x b q k. search (rules, tests))))
    c.loop-e.remaining c.loop-e.invariant c.next.new.self c.in-None.ensures.steps

pub returns-clause-count_bound : goal.returns-clause-count_bound
unfolding on_test leaf_remaining
returns-clause-count_bound c =
    gather_few c.args.sides.now _ c.requires c.loop-e.yielded c.loop-e.e-iterator c.loop-e.yielded_by
    (YieldsList-at c.into_iter-e-iterator.ensures.into_iter_gives
    (leaf_filter (on_test c.args.sides.now) _ _ c.entries.ensures _ c.filter-e-items.result c.filter-e-items.ensures.source
    c.filter-e-items.ensures.closure (λ x b q k. search (rules, tests))))
    c.loop-e.remaining c.loop-e.invariant c.next.new.self c.in-None.ensures.steps
