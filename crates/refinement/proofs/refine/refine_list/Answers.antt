-- `refine::refine_list` meets its contract; its loop is in RefineLoops.
use Rattle.refinement.proofs.RefineLoops.{refining_start, refining_again, refining_stop}
use Rattle.refinement.proofs.refine.refine_list.Goals as goal

pub loop-next-init : goal.loop-next-init
loop-next-init c = search refining_start

pub loop-next-preserved : goal.loop-next-preserved
loop-next-preserved c = search refining_again

pub returns : goal.returns
returns c = search refining_stop
