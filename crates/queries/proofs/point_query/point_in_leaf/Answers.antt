-- `point_query::point_in_leaf` meets its contract.
use Rattle.std.proofs.Common.{rules, tests}
use Rattle.walks.specs.Walks.{cell_test}
use Rattle.walks.proofs.LeafScans.{leaf_find}
use Rattle.queries.proofs.PointWalk.{leaf_found}
use Rattle.queries.proofs.point_query.point_in_leaf.Goals as goal

pub returns : goal.returns
unfolding cell_test
returns c =
    leaf_found c.args.c _ _ c.find-held.result _
    (leaf_find (cell_test c.args.c) _ _ c.entries.ensures c.find-held.new.self c.find-held.result c.find-held.ensures.ran
    (λ x b q k. search (rules, tests)))
    (search rules)
