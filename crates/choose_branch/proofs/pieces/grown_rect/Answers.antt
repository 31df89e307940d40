-- `pieces::grown_rect` meets its contract.
use Rattle.geometry.proofs.CellLaws.{grid_x, grid_y}
use Rattle.choose_branch.proofs.GrownReturns.{rect_grown}
use Rattle.choose_branch.proofs.pieces.grown_rect.Goals as goal

pub grow-requires-clause-x_bound : goal.grow-requires-clause-x_bound
grow-requires-clause-x_bound c = search grid_x

pub grow-requires-clause-y_bound : goal.grow-requires-clause-y_bound
grow-requires-clause-y_bound c = search grid_y

pub returns : goal.returns
returns c = search rect_grown
