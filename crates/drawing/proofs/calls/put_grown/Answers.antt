-- `calls::put_grown` meets its contract.
use Rattle.drawing.proofs.GrowLoop.{grow_start, grow_again, grow_end}
use Rattle.geometry.proofs.CellLaws.{grid_of}
use Rattle.drawing.proofs.calls.put_grown.Goals as goal

pub loop-i-init : goal.loop-i-init
loop-i-init c = search grow_start

pub grow-requires-clause-x_bound : goal.grow-requires-clause-x_bound
grow-requires-clause-x_bound c = (grid_of c.args.c c.requires.c_value).x_most

pub grow-requires-clause-y_bound : goal.grow-requires-clause-y_bound
grow-requires-clause-y_bound c = (grid_of c.args.c c.requires.c_value).y_most

pub loop-i-preserved : goal.loop-i-preserved
loop-i-preserved c = search grow_again

pub returns : goal.returns
returns c = search grow_end
