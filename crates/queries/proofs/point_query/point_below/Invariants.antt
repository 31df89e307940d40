-- `point_query::point_below` meets its contract; its loop is in PathWalk.
use Rattle.queries.proofs.PathWalk.{OnPath}
use Rattle.queries.proofs.point_query.point_below.Given as goal

abbrev pub invariant-loop-depth : goal.invariant-loop-depth
invariant-loop-depth l = OnPath l.c l.level l.m l.lo l.k l.depth l.from l.at
