use Rattle.std.proofs.Common.{◌≡◌}
use Rattle.std.specs.Io.KnownBytes.{Keeps}
use Rattle.bench.proofs.reading.read_once.Given as goal

abbrev pub invariant-loop : goal.invariant-loop
invariant-loop g l = Keeps (g.I.Read.remaining l.fn.streams.input) (g.I.Read.remaining l.streams.input)
    × (l.streams.output ≡ l.fn.streams.output)
