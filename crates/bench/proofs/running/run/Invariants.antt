-- Few bytes are kept, and what was taken is answered and written.
use Rattle.std.proofs.Common.{take}
use Rattle.line_program.specs.Response.{lent}
use Rattle.bench.proofs.TurnLoop.{Turning}
use Rattle.bench.proofs.WrittenRun.{Answering}
use Rattle.bench.proofs.running.run.Given as goal

abbrev pub invariant-loop : goal.invariant-loop
invariant-loop g l =
    Turning l.fn.m l.fn.work l.fn.list l.fn.input l.fn.out l.m l.work l.list l.input l.out l.kept
    × Answering (g.I.Read.remaining l.fn.streams.input) (g.I.Read.remaining l.streams.input)
    (g.O.Write.contents l.fn.streams.output) (g.O.Write.contents l.streams.output)
    (lent l.fn.m l.fn.work l.fn.list) (lent l.m l.work l.list) (take l.kept l.input)
