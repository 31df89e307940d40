-- `polygon_refine::without` meets its contract; the laws that it needs are in PairLoops.
use Rattle.refinement.proofs.PairLoops.{taken_out}
use Rattle.refinement.proofs.polygon_refine.without.Goals as goal

pub returns : goal.returns
returns c = search taken_out
