-- `stream::answer_lines` meets its contract; its loop is in StreamLoops.
use Prim.Native.Nat.{◌-◌}
use lib.ListN.{length}
use Rattle.line_program.specs.Response.{lent}
use Rattle.line_program.proofs.StreamLoops.{Answering}
use Rattle.line_program.proofs.stream.answer_lines.Given as goal

abbrev pub invariant-loop-output : goal.invariant-loop-output
invariant-loop-output l = Answering l.input l.from (lent l.initial.m l.initial.work l.initial.list) (lent l.m l.work l.list) l.initial.output l.output l.room l.next l.known

abbrev pub decreases-loop-output : goal.decreases-loop-output
decreases-loop-output l = length l.input - l.next
