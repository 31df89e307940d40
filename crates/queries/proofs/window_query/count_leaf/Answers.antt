-- `window_query::count_leaf` meets its contract.
use mathlib.Core.Logic.{inl}
use native.Mathlib.Omega.{arith}
use Rattle.std.proofs.Common.{rules, tests}
use Rattle.std.proofs.lemmas.Iterator.Consumers.{count_from_yields_List}
use Rattle.walks.specs.Walks.{inside_test}
use Rattle.walks.proofs.LeafScans.{leaf_few, leaf_filter}
use Rattle.queries.proofs.window_query.count_leaf.Goals as goal

pub count-requires-clause-fits : goal.count-requires-clause-fits
count-requires-clause-fits c = inl (omega (arith, leaf_few _ _ _ c.requires c.entries.ensures c.filter.ensures.source))

pub overflow_cast-result : goal.overflow_cast-result
overflow_cast-result c =
    omega (arith, leaf_few _ _ _ c.requires c.entries.ensures c.filter.ensures.source, c.count.ensures.bound)

pub returns : goal.returns
unfolding inside_test
returns c =
    count_from_yields_List _ _ c.count.ensures.ran
    (leaf_filter (inside_test c.args.w) _ _ c.entries.ensures _ c.filter.result c.filter.ensures.source c.filter.ensures.closure
    (λ x b q k. search (rules, tests)))
