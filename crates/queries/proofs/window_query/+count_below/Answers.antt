-- `window_query::count_below` meets its contract, with the level as its measure; its loop is in WalkLoop and WindowWalk.
use native.Mathlib.Omega.{arith}
use Rattle.walks.proofs.WalkRows.{node_part_lem}
use Rattle.walks.proofs.WalkLoop.{child_walkable, child_polygon, child_fits}
use Rattle.queries.proofs.WindowWalk.{matched_leaf, counting_start, counting_miss, counting_hit, matches_fit, visits_fit, counting_end}
use Rattle.walks.proofs.WalkChildren.{children_here, child_here}
use Rattle.queries.proofs.window_query.+count_below.Goals as goal
use Rattle.queries.proofs.window_query.+count_below.Goals.{else-polygon_meets, then-polygon_meets}

pub count_leaf-matches-requires : goal.count_leaf-matches-requires
count_leaf-matches-requires t c = search node_part_lem

pub returns-then-level-eq0 : goal.returns-then-level-eq0
returns-then-level-eq0 t c = search matched_leaf

pub loop-part-init : goal.loop-part-init
loop-part-init t c = search (counting_start, children_here)

pub polygon_meets-requires : goal.polygon_meets-requires
polygon_meets-requires t c = search (child_polygon, child_here)

pub count_below-below-requires : goal.count_below-below-requires
count_below-below-requires t c = (omega arith, search (child_walkable, child_here))

pub overflow_add-so_far : goal.overflow_add-so_far
overflow_add-so_far t c = search (matches_fit, child_here)

pub overflow_add-so_far-then-polygon_meets : goal.overflow_add-so_far-then-polygon_meets
overflow_add-so_far-then-polygon_meets t c = search (visits_fit, child_here)

pub overflow_add-low : goal.overflow_add-low
overflow_add-low t c = search (child_fits, child_here)

pub loop-part-preserved : goal.loop-part-preserved
loop-part-preserved t c = elim c.if-polygon_meets.branch [ then-polygon_meets x ↦ search (counting_hit, child_here) | else-polygon_meets x ↦ search (counting_miss, child_here) ]

pub returns : goal.returns
returns t c = search counting_end
