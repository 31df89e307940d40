-- `query::empty_in_tree` meets its contract; its returns are in CallReturns.
use Rattle.walks.proofs.TreeWalk.{tree_walkable, tree_polygon}
use Rattle.emptiness.proofs.CallReturns.{tree_room, tree_outside, tree_inside}
use Rattle.emptiness.proofs.query.empty_in_tree.Goals as goal

pub polygon_meets-requires : goal.polygon_meets-requires
polygon_meets-requires c = search tree_polygon

pub match_below-requires-clause-walkable : goal.match_below-requires-clause-walkable
match_below-requires-clause-walkable c = search tree_walkable

pub match_below-requires-clause-k_bound : goal.match_below-requires-clause-k_bound
match_below-requires-clause-k_bound c = search tree_room

pub returns-then-polygon_meets : goal.returns-then-polygon_meets
returns-then-polygon_meets c = search tree_inside

pub returns-else-polygon_meets : goal.returns-else-polygon_meets
returns-else-polygon_meets c = search tree_outside
