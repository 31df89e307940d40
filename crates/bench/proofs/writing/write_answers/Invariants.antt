-- The rest is what is still to be written.
use Rattle.std.proofs.Common.{◌≡◌}
use Rattle.bench.proofs.WrittenLaws.{Put}
use Rattle.bench.proofs.writing.write_answers.Given as goal

abbrev pub invariant-loop : goal.invariant-loop
invariant-loop g l =
    Put (g.O.Write.contents l.fn.streams.output) (g.O.Write.contents l.streams.output) l.text l.rest
    × (l.streams.input ≡ l.fn.streams.input)
