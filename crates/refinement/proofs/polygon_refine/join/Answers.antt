-- `polygon_refine::join` meets its contract; the laws that it needs are in PairLoops.
use Rattle.refinement.proofs.PairLoops.{union_put}
use Rattle.refinement.proofs.polygon_refine.join.Goals as goal

pub returns : goal.returns
returns c = search union_put
