-- `output::Output::digits` meets its contract; its laws are in TextLaws.
use Rattle.commands.proofs.output.Output.+digits.Given as goal

abbrev pub decreases-digits : goal.decreases-digits
decreases-digits l = l.value
