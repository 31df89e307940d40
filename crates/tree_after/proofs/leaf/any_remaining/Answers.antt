-- `leaf::any_remaining` meets its contract.
use Rattle.std.proofs.Common.{rules, tests}
use Rattle.split_line.specs.Sides.{on_test}
use Rattle.walks.proofs.LeafScans.{leaf_any}
use Rattle.tree_after.specs.Leaves.{leaf_remaining}
use Rattle.tree_after.proofs.leaf.any_remaining.Goals as goal

pub returns : goal.returns
unfolding on_test leaf_remaining
returns c = leaf_any (on_test c.args.sides.now) _ _ c.entries.ensures c.any.new.self c.any.ensures.ran (λ x b q k. search (rules, tests))
