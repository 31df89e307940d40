-- `arguments::is_list` meets its contract.
use Rattle.std.proofs.Common.{rules, tests}
use Rattle.drawing.specs.Arguments.{is_list}
use Rattle.drawing.proofs.arguments.is_list.Goals as goal

pub returns-then-n-most : goal.returns-then-n-most
unfolding is_list
returns-then-n-most c = search (rules, tests)

pub returns-else-n-most : goal.returns-else-n-most
unfolding is_list
returns-else-n-most c = search (rules, tests)
