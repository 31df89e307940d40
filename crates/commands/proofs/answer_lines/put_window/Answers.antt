-- `answer_lines::put_window` meets its contract.
use Rattle.std.proofs.Common.{rules}
use Rattle.commands.proofs.AnswerReturns.{window_few, refused_few}
use Rattle.commands.proofs.answer_lines.put_window.Goals as goal

pub returns-in-Ok-clause-few : goal.returns-in-Ok-clause-few
returns-in-Ok-clause-few c = search (rules, window_few)

pub returns-in-Err-clause-few : goal.returns-in-Err-clause-few
returns-in-Err-clause-few c = search (rules, refused_few)
