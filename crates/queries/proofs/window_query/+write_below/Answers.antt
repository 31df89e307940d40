-- `window_query::write_below` meets its contract, with the level as its measure; its loop is in WalkLoop and WindowWrite.
use native.Mathlib.Omega.{arith}
use Rattle.walks.proofs.WalkLoop.{child_polygon, child_fits}
use Rattle.queries.proofs.WindowWrite.{written_leaf_room, written_leaf, writing_start, writing_room, writing_miss, writing_hit, writing_end}
use Rattle.walks.proofs.WalkChildren.{children_here, child_here}
use Rattle.queries.proofs.window_query.+write_below.Goals as goal
use Rattle.queries.proofs.window_query.+write_below.Goals.{else-polygon_meets, then-polygon_meets}

pub write_leaf-requires : goal.write_leaf-requires
write_leaf-requires t c = search written_leaf_room

pub returns-then-level-eq0 : goal.returns-then-level-eq0
returns-then-level-eq0 t c = search written_leaf

pub loop-part-init : goal.loop-part-init
loop-part-init t c = search (writing_start, children_here)

pub polygon_meets-requires : goal.polygon_meets-requires
polygon_meets-requires t c = search (child_polygon, child_here)

pub write_below-next-requires : goal.write_below-next-requires
write_below-next-requires t c = (omega arith, search (writing_room, child_here))

pub overflow_add-low : goal.overflow_add-low
overflow_add-low t c = search (child_fits, child_here)

pub loop-part-preserved : goal.loop-part-preserved
loop-part-preserved t c = elim c.if-polygon_meets.branch [ then-polygon_meets x ↦ search (writing_hit, child_here) | else-polygon_meets x ↦ search (writing_miss, child_here) ]

pub returns : goal.returns
returns t c = search writing_end
