-- `refine::join_rects` meets its contract; the laws that it needs are in RefineLoops.
use Rattle.refinement.proofs.RefineLoops.{joined_is}
use Rattle.refinement.proofs.refine.join_rects.Goals as goal

pub returns : goal.returns
returns c = search joined_is
