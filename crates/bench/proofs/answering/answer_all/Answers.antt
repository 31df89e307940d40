-- The lines are answered by a session, and the answers written.
use Rattle.std.proofs.Common.{rules, refl}
use Rattle.bench.proofs.WrittenLoop.{put_start_all, put_again_all, put_failed_all, put_done_all}
use Rattle.bench.proofs.answering.answer_all.Goals as goal

pub loop-from-init : goal.loop-from-init
loop-from-init g c = (search put_start_all, search rules)

pub loop-from-preserved : goal.loop-from-preserved
loop-from-preserved g c =
    let p = c.in_ok-write_answers.ensures.all in
    (search put_again_all, search rules)

pub returns-in_err-write_answers-clause-written : goal.returns-in_err-write_answers-clause-written
returns-in_err-write_answers-clause-written g c =
    put_failed_all _ _ _ _ _ _ _ _ _ _ _ _ _ c.loop-from.invariant.0 _ _ _ _ _ c.answer_lines-p.ensures
    _ c.from_residual.ensures.0 c.in_err-write_answers.ensures.start

pub returns-in_err-write_answers-clause-served : goal.returns-in_err-write_answers-clause-served
returns-in_err-write_answers-clause-served g c = (returns-in_err-write_answers-clause-written g c).answered

pub returns-then-p-clause-written : goal.returns-then-p-clause-written
returns-then-p-clause-written g c =
    put_done_all _ _ _ _ _ _ _ _ _ _ _ _ _ c.loop-from.invariant.0 _ _ _ _ _ c.answer_lines-p.ensures
    _ refl c.if-p.true c.in_ok-write_answers.ensures.all

pub returns-then-p-clause-served : goal.returns-then-p-clause-served
returns-then-p-clause-served g c = (returns-then-p-clause-written g c).answered
