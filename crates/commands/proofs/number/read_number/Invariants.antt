-- `number::read_number` meets its contract; its loop is in NumberLoop.
use Rattle.commands.proofs.NumberLoop.{Digits}
use Rattle.commands.proofs.number.read_number.Given as goal

abbrev pub invariant-loop-byte : goal.invariant-loop-byte
invariant-loop-byte l = Digits l.field l.value l.byte-index
