-- `fields::read_numbers` meets its contract; its loop is in FieldLoop.
use Rattle.std.proofs.Common.{◌-◌, length}
use Rattle.commands.proofs.FieldLoop.{FieldsSoFar}
use Rattle.commands.proofs.fields.read_numbers.Given as goal

abbrev pub invariant-loop-at : goal.invariant-loop-at
invariant-loop-at l = FieldsSoFar l.line l.numbers.items l.at

abbrev pub decreases-loop-at : goal.decreases-loop-at
decreases-loop-at l = length l.line - l.at
