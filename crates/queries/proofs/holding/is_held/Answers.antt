-- `holding::is_held` meets its contract; its returns are in HeldReturns.
use Rattle.walks.proofs.TreeWalk.{tree_sound_walk, tree_polygon}
use Rattle.queries.proofs.HeldReturns.{held_outside, held_found}
use Rattle.queries.proofs.holding.is_held.Goals as goal

pub polygon_has-requires : goal.polygon_has-requires
polygon_has-requires c = search tree_polygon

pub point_below-requires : goal.point_below-requires
point_below-requires c = search tree_sound_walk

pub returns-then-polygon_has : goal.returns-then-polygon_has
returns-then-polygon_has c = search held_found

pub returns-else-polygon_has : goal.returns-else-polygon_has
returns-else-polygon_has c = search held_outside
