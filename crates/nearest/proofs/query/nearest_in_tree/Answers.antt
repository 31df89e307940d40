-- `nearest_in_tree` meets its contract.
use Rattle.nearest.proofs.CallReturns.{tree_near, tree_room, tree_nothing, tree_found}
use Rattle.nearest.proofs.query.nearest_in_tree.Goals as goal

pub nearest_below-near-requires-clause-near_walk : goal.nearest_below-near-requires-clause-near_walk
nearest_below-near-requires-clause-near_walk c = search tree_near

pub nearest_below-near-requires-clause-k_bound : goal.nearest_below-near-requires-clause-k_bound
nearest_below-near-requires-clause-k_bound c = search tree_room

pub returns-in_default : goal.returns-in_default
returns-in_default c = search tree_nothing

pub returns : goal.returns
returns c = search tree_found
