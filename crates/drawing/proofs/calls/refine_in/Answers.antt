-- `calls::refine_in` meets its contract.
use Rattle.drawing.proofs.Returns.{refined_into}
use Rattle.drawing.proofs.calls.refine_in.Goals as goal

pub returns-clause-refined_into : goal.returns-clause-refined_into
returns-clause-refined_into c = search refined_into
