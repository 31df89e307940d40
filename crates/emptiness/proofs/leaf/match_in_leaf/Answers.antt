-- `leaf::match_in_leaf` meets its contract.
use Rattle.std.proofs.Common.{rules, tests}
use Rattle.walks.specs.Walks.{inside_test}
use Rattle.walks.proofs.LeafScans.{leaf_any}
use Rattle.emptiness.proofs.leaf.match_in_leaf.Goals as goal

pub returns : goal.returns
unfolding inside_test
returns c =
    leaf_any (inside_test c.args.w) _ _ c.entries.ensures c.any.new.self c.any.ensures.ran
    (λ x b q k. search (rules, tests))
