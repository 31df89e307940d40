-- `output::Output::digits` meets its contract; its laws are in TextLaws.
use Rattle.std.proofs.Common.{arith}
use Rattle.commands.proofs.TextLaws.{number_digit, room_digit, room_tenth, room_digit_more, put_last}
use Rattle.commands.proofs.output.Output.+digits.Goals as goal

pub byte-requires : goal.byte-requires
byte-requires t c = search room_digit

pub returns-then-value-lt10 : goal.returns-then-value-lt10
returns-then-value-lt10 t c = rw (number_digit _ c.if-value-lt10.true) c.byte.ensures

pub digits-requires : goal.digits-requires
digits-requires t c = (omega arith, search room_tenth)

pub byte-requires-2 : goal.byte-requires-2
byte-requires-2 t c = search room_digit_more

pub returns : goal.returns
returns t c = search put_last
