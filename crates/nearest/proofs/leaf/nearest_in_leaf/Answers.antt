-- `nearest_in_leaf` meets its contract.
use Rattle.nearest.proofs.NearLeaf.{leaf_grid, leaf_next}
use Rattle.nearest.proofs.leaf.nearest_in_leaf.Goals as goal

pub with_entry-best-requires-clause-cell_value : goal.with_entry-best-requires-clause-cell_value
with_entry-best-requires-clause-cell_value c = search (leaf_grid, c.in-Some.ensures.steps)

pub loop-e-preserved : goal.loop-e-preserved
loop-e-preserved c = search (leaf_next, c.in-Some.ensures.steps)
