-- `parsing::parse` meets its contract; its returns are in CommandReturns.
use Rattle.std.proofs.Common.{◌∙◌, ap, get_or}
use Rattle.commands.specs.Commands.{command_for}
use Rattle.commands.proofs.CommandReturns.{parse_long, parse_no_letter, parse_bad, parse_good}
use Rattle.commands.proofs.parsing.parse.Goals as goal
use Rattle.commands.proofs.parsing.parse.Goals.{then-line-gt80-via-then-line-gt80, then-line-gt80-via-else-line-gt80+then-find_byte-ne1}

pub returns-then-line-gt80 : goal.returns-then-line-gt80
returns-then-line-gt80 c =
    elim c.then-line-gt80.branch [
      | then-line-gt80-via-then-line-gt80 w ↦ parse_long _ w.if-line-gt80.true
      | then-line-gt80-via-else-line-gt80+then-find_byte-ne1 w ↦
          parse_no_letter _ w.if-line-gt80.false _ w.find_byte.ensures w.if-find_byte-ne1.true
    ]

pub returns-in_err-numbers : goal.returns-in_err-numbers
returns-in_err-numbers c =
    c.from_residual.ensures
    ∙ parse_bad _ c.if-line-gt80.false _ c.find_byte.ensures c.if-find_byte-ne1.false c.in_err-numbers.ensures

pub returns : goal.returns
returns c =
    parse_good _ c.if-line-gt80.false _ c.find_byte.ensures c.if-find_byte-ne1.false _ c.in_ok-numbers.ensures _
    (c.choose.ensures ∙ ap (command_for (get_or c.args.line.now 0 0)) c.as_slice.ensures.value)
