-- `stream::answer_lines` meets its contract; its loop is in StreamLoops.
use Rattle.std.proofs.Common.{rules}
use Rattle.line_program.proofs.StreamLoops.{answer_start, answer_room, answer_sound, answer_done, answer_full, answer_again}
use Rattle.line_program.proofs.stream.answer_lines.Goals as goal

pub loop-output-init : goal.loop-output-init
loop-output-init c = search answer_start

pub returns-then-end-input : goal.returns-then-end-input
returns-then-end-input c =
    answer_done _ _ _ _ _ _ _ _ _ c.loop-output.invariant _ (search rules) _ c.find_byte-end.ensures c.if-end-input.true

pub respond-requires-clause-room : goal.respond-requires-clause-room
respond-requires-clause-room c = search answer_room

pub respond-requires-clause-known : goal.respond-requires-clause-known
respond-requires-clause-known c = search answer_sound

pub loop-output-preserved : goal.loop-output-preserved
loop-output-preserved c = search answer_again

pub returns : goal.returns
returns c = search (rules, answer_full)
