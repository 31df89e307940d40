-- `output::Output::line` meets its contract; its loop is in TextLaws.
use Rattle.commands.proofs.TextLaws.{room_letter, room_field, line_more, room_feed, line_end}
use Rattle.commands.proofs.output.Output.line.Goals as goal

pub byte-requires : goal.byte-requires
byte-requires c = search room_letter

pub field-requires : goal.field-requires
field-requires c = search room_field

pub loop-value-preserved : goal.loop-value-preserved
loop-value-preserved c = search line_more

pub byte-requires-2 : goal.byte-requires-2
byte-requires-2 c = search room_feed

pub returns : goal.returns
returns c = search line_end
