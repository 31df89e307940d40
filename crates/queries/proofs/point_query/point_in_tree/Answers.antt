-- `point_query::point_in_tree` meets its contract; its returns are in PointReturns.
use Rattle.walks.proofs.TreeWalk.{tree_sound_walk, tree_polygon}
use Rattle.queries.proofs.PointReturns.{point_outside, point_walked}
use Rattle.queries.proofs.point_query.point_in_tree.Goals as goal

pub polygon_has-requires : goal.polygon_has-requires
polygon_has-requires c = search tree_polygon

pub returns-then-not-polygon_has : goal.returns-then-not-polygon_has
returns-then-not-polygon_has c = search point_outside

pub point_below-requires : goal.point_below-requires
point_below-requires c = search tree_sound_walk

pub returns : goal.returns
returns c = search point_walked
