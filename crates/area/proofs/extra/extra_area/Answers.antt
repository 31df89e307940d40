-- `extra::extra_area` meets its contract; its returns are in ExtraReturns.
use borrow.Author.Rules.{rules}
use Rattle.geometry.proofs.CellLaws.{Valid, grid_x, grid_y}
use Rattle.area.proofs.ExtraReturns.{read_valid, new_valid, new_ends, extra_of_single, extra_outside, extra_counted}
use Rattle.area.proofs.extra.extra_area.Goals as goal

pub extra_of_one-requires-clause-r_value : goal.extra_of_one-requires-clause-r_value
extra_of_one-requires-clause-r_value c = search read_valid

pub returns-then-n-eq1 : goal.returns-then-n-eq1
returns-then-n-eq1 c = search extra_of_single

pub grow-g-requires-clause-x_bound : goal.grow-g-requires-clause-x_bound
grow-g-requires-clause-x_bound c = search grid_x

pub grow-g-requires-clause-y_bound : goal.grow-g-requires-clause-y_bound
grow-g-requires-clause-y_bound c = search grid_y

pub outside-requires : goal.outside-requires
outside-requires c = search new_valid

pub returns-then-limit-outside : goal.returns-then-limit-outside
returns-then-limit-outside c = search extra_outside

pub lacking-requires : goal.lacking-requires
lacking-requires c =
    let v : Valid c.grow-g.result = search new_ends in
    search rules

pub returns : goal.returns
returns c = extra_counted _ _ _ c.rect_at-r.ensures _ _ c.grow-g.ensures _ _ _ (rw c.new.ensures at c.lacking.ensures)
