-- `answer_lines::put_entries` meets its contract; its loop is in AnswerReturns.
use Rattle.commands.proofs.AnswerReturns.{entries_more}
use Rattle.commands.proofs.answer_lines.put_entries.Goals as goal

pub loop-i-preserved : goal.loop-i-preserved
loop-i-preserved c =
    entries_more _ _ _ _ _ _ _ _ c.type_inv.list c.from.ensures c.from-in-loop-i.ensures c.from-in-loop-i-2.ensures c.loop-i.invariant c.line.ensures
