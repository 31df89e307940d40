-- The laws that it needs are in TurnLoop and WrittenRun.
use Rattle.bench.proofs.TurnLoop.{turn_start, turn_again, turns_over, turn_failed, turn_last}
use Rattle.bench.proofs.WrittenRun.{answering_start, answering_on, answering_over, answering_failed, answering_ended}
use Rattle.bench.proofs.running.run.Goals as goal

pub loop-init : goal.loop-init
loop-init g c = (search turn_start, answering_start _ _ _ _ _)

pub loop-preserved : goal.loop-preserved
loop-preserved g c =
    let v = c.loop.invariant.0 in
    let s = rw c.in-Some.is at c.in_ok-n.ensures.served in
    (search turn_again, answering_on _ _ _ _ _ _ _ _ c.loop.invariant.1 _ _ _ _ _ (rw c.in-Some.is at c.in_ok-n.ensures.written))

pub returns-in-None-clause-claimed : goal.returns-in-None-clause-claimed
returns-in-None-clause-claimed g c =
    let v = c.loop.invariant.0 in
    search turn_last

pub returns-in-None-clause-written : goal.returns-in-None-clause-written
returns-in-None-clause-written g c =
    answering_ended _ _ _ _ _ _ _ _ c.loop.invariant.1 c.requires.m_value _ _ _ _ _ _ _ (rw c.in-None.is at c.in_ok-n.ensures.written) c.answer_last.ensures.written

pub returns-in_err-n-clause-claimed : goal.returns-in_err-n-clause-claimed
returns-in_err-n-clause-claimed g c =
    let v = c.loop.invariant.0 in
    search turn_failed

pub returns-in_err-n-clause-written : goal.returns-in_err-n-clause-written
returns-in_err-n-clause-written g c =
    answering_failed _ _ _ _ _ _ _ _ c.loop.invariant.1 c.requires.m_value _ _ _ _ _ _ c.from_residual.ensures.0 c.in_err-n.ensures.written

pub returns-clause-claimed : goal.returns-clause-claimed
returns-clause-claimed g c =
    let v = c.loop.invariant.0 in
    search turns_over

pub returns-clause-written : goal.returns-clause-written
returns-clause-written g c = answering_over _ _ _ _ _ _ _ _ c.loop.invariant.1 c.requires.m_value _
