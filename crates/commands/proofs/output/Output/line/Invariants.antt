-- `output::Output::line` meets its contract; its loop is in TextLaws.
use Rattle.commands.proofs.TextLaws.{LineSoFar}
use Rattle.commands.proofs.output.Output.line.Given as goal

abbrev pub invariant-loop-value : goal.invariant-loop-value
invariant-loop-value l = LineSoFar l.fn.self l.letter l.values l.value-index l.self
