-- The laws that it needs are in WrittenLoop.
use Rattle.bench.proofs.WrittenLoop.{first_failed, first_kept}
use Rattle.bench.proofs.answering.answer_first.Goals as goal

pub returns-in_err-from-clause-written : goal.returns-in_err-from-clause-written
returns-in_err-from-clause-written g c = first_failed _ _ _ _ _ _ _ _ _ _ _ _ _ c.from_residual.ensures.0 c.in_err-from.ensures.written

pub returns-clause-written : goal.returns-clause-written
returns-clause-written g c = first_kept _ _ _ _ _ _ _ _ _ _ _ _ _ c.in_ok-from.ensures.written c.keep_rest.ensures

pub returns-clause-served : goal.returns-clause-served
returns-clause-served g c = (returns-clause-written g c).answered
