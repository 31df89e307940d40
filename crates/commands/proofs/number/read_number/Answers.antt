-- `number::read_number` meets its contract; its loop is in NumberLoop.
use Rattle.std.proofs.Common.{◌∙◌}
use Rattle.commands.proofs.NumberLoop.{no_digit, digits_again, value_read}
use Rattle.commands.proofs.number.read_number.Goals as goal

pub returns-then-not-is_ascii_digit : goal.returns-then-not-is_ascii_digit
returns-then-not-is_ascii_digit c = no_digit _ _ _ c.loop-byte.invariant c.loop-byte-test.true c.if-not-is_ascii_digit.ensures.cases

pub loop-byte-preserved : goal.loop-byte-preserved
loop-byte-preserved c = rw c.from.ensures (digits_again _ _ _ c.loop-byte.invariant c.loop-byte-test.true c.if-not-is_ascii_digit.ensures.cases)

pub returns : goal.returns
returns c = c.ok.ensures.value ∙ value_read _ _ _ c.loop-byte.invariant c.loop-byte-test.false _ c.try_from.ensures
