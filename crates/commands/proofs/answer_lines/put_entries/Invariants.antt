-- `answer_lines::put_entries` meets its contract; its loop is in AnswerReturns.
use Rattle.std.proofs.Common.{◌*◌}
use Rattle.commands.specs.AnswerText.{entries_text}
use Rattle.commands.proofs.AnswerReturns.{Lines}
use Rattle.commands.proofs.answer_lines.put_entries.Given as goal

abbrev pub invariant-loop-i : goal.invariant-loop-i
invariant-loop-i l = Lines (35 * l.i) l.fn.out (entries_text l.list l.i) l.out
