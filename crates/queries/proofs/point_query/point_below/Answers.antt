-- `point_query::point_below` meets its contract; its loop is in PathWalk.
use Rattle.queries.proofs.PathWalk.{path_start, path_children, path_next, path_none, path_part, path_leaf}
use Rattle.queries.proofs.point_query.point_below.Goals as goal

pub loop-depth-init : goal.loop-depth-init
loop-depth-init c = search path_start

pub child_with-requires : goal.child_with-requires
child_with-requires c = search path_children

pub returns-in_default : goal.returns-in_default
returns-in_default c = search path_none

pub loop-depth-preserved : goal.loop-depth-preserved
loop-depth-preserved c = search path_next

pub point_in_leaf-requires : goal.point_in_leaf-requires
point_in_leaf-requires c = search path_part

pub returns : goal.returns
returns c = search path_leaf
