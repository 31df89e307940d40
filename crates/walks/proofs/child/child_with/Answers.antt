-- `child::child_with` meets its contract; its loop is in ChildLoop.
use mathlib.Core.Path.{refl}
use Rattle.walks.proofs.ChildLoop.{seek_start, seek_polygon, seek_fits, seek_found, seek_again, seek_none}
use Rattle.walks.proofs.child.child_with.Goals as goal

pub loop-at-init : goal.loop-at-init
loop-at-init c = search seek_start

pub polygon_has-requires : goal.polygon_has-requires
polygon_has-requires c = search (seek_polygon, refl)

pub returns-then-polygon_has : goal.returns-then-polygon_has
returns-then-polygon_has c = search (seek_found, refl)

pub overflow_add-low : goal.overflow_add-low
overflow_add-low c = search (seek_fits, refl)

pub loop-at-preserved : goal.loop-at-preserved
loop-at-preserved c = search (seek_again, refl)

pub returns : goal.returns
returns c = search seek_none
