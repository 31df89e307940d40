-- `refine::drop_rect` meets its contract; the law that it needs is in RefineLoops.
use Rattle.refinement.proofs.RefineLoops.{moved_down}
use Rattle.refinement.proofs.refine.drop_rect.Goals as goal

pub returns : goal.returns
returns c = search moved_down
