-- `alone::least_alone` meets its contract; its loop is in AloneLoops.
use Rattle.choose_branch.proofs.AloneLoops.{every_start, every_polygon, every_valid, every_again, every_end}
use Rattle.choose_branch.proofs.ChildParts.{children_here, child_here}
use Rattle.choose_branch.proofs.alone.least_alone.Goals as goal

pub loop-part-init : goal.loop-part-init
loop-part-init c = search (every_start, children_here)

pub polygon_rects-requires : goal.polygon_rects-requires
polygon_rects-requires c = search (every_polygon, child_here)

pub alone_in-least-requires-clause-rects_value : goal.alone_in-least-requires-clause-rects_value
alone_in-least-requires-clause-rects_value c = search (every_valid, child_here)

pub loop-part-preserved : goal.loop-part-preserved
loop-part-preserved c = search (every_again, child_here)

pub returns : goal.returns
returns c = search every_end
