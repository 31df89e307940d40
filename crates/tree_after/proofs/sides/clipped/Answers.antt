-- `sides::clipped` meets its contract; its loop is in ClipLoop.
use Rattle.tree_after.proofs.ClipLoop.{clip_start, clip_again, clip_end}
use Rattle.tree_after.proofs.sides.clipped.Goals as goal

pub loop-side-init : goal.loop-side-init
loop-side-init c = search clip_start

pub loop-side-preserved : goal.loop-side-preserved
loop-side-preserved c = search clip_again

pub returns : goal.returns
returns c = search clip_end
