-- The laws that it needs are in WrittenTurns.
use Rattle.std.proofs.Common.{ap, refl, arith, rules, Ok, Err}
use Rattle.bench.proofs.WrittenTurns.{none_read, end_read, lines_read}
use Rattle.bench.proofs.running.read_some.Goals as goal

pub returns-in_err-n-clause-written : goal.returns-in_err-n-clause-written
returns-in_err-n-clause-written g c =
    none_read _ _ _ _ _ _ _ _ _ _ _ c.from_residual.ensures.0 (ap g.O.Write.contents c.in_err-n.ensures.output_kept)

pub returns-in_err-n-clause-served : goal.returns-in_err-n-clause-served
returns-in_err-n-clause-served g c = (returns-in_err-n-clause-written g c).answered

pub returns-then-n-eq0-clause-written : goal.returns-then-n-eq0-clause-written
returns-then-n-eq0-clause-written g c =
    end_read _ _ _ _ _ _ _ _ _ _ (ap g.O.Write.contents c.in_ok-n.ensures.output_kept) (omega arith)
    (rw c.if-n-eq0.true at c.in_ok-n.ensures.bytes) (c.in_ok-n.ensures.end c.if-n-eq0.true (search rules))

pub returns-then-n-eq0-clause-served : goal.returns-then-n-eq0-clause-served
returns-then-n-eq0-clause-served g c = (returns-then-n-eq0-clause-written g c).answered

pub returns-in_err-rest-clause-written : goal.returns-in_err-rest-clause-written
returns-in_err-rest-clause-written g c =
    lines_read _ _ _ _ _ _ _ _ _ _ _ _ _ _ _ _ _ _ _ refl (omega arith) c.in_ok-n.ensures.bound c.in_ok-n.ensures.bytes
    (ap g.I.Read.remaining c.in_err-rest.ensures.input_kept) (ap g.O.Write.contents c.in_ok-n.ensures.output_kept)
    (Err _) _ c.from_residual-in_err-rest.ensures.0 c.in_err-rest.ensures.written

pub returns-clause-written : goal.returns-clause-written
returns-clause-written g c =
    lines_read _ _ _ _ _ _ _ _ _ _ _ _ _ _ _ _ _ _ _ refl (omega arith) c.in_ok-n.ensures.bound c.in_ok-n.ensures.bytes
    (ap g.I.Read.remaining c.in_ok-rest.ensures.input_kept) (ap g.O.Write.contents c.in_ok-n.ensures.output_kept)
    (Ok _) _ refl c.in_ok-rest.ensures.written
