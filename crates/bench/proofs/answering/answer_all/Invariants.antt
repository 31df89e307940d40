-- The lines before a place are answered, and their answers written.
use Rattle.std.proofs.Common.{◌≡◌, ◌-◌, length}
use Rattle.bench.proofs.WrittenLoop.{AllPut}
use Rattle.bench.proofs.answering.answer_all.Given as goal

abbrev pub invariant-loop-from : goal.invariant-loop-from
invariant-loop-from g l =
    AllPut l.input l.fn.m l.fn.work l.fn.list l.fn.out (g.O.Write.contents l.fn.streams.output) (g.O.Write.contents l.streams.output)
    l.m l.work l.list l.out l.from
    × (l.streams.input ≡ l.fn.streams.input)

abbrev pub decreases-loop-from : goal.decreases-loop-from
decreases-loop-from g l = length l.input - l.from
