-- `response::answer_line` meets its contract.
use Rattle.soundness.proofs.ReadsLaws.{unknown}
use Rattle.line_program.proofs.response.answer_line.Goals as goal

pub respond-requires-clause-known : goal.respond-requires-clause-known
respond-requires-clause-known c = unknown _
