-- `one::extra_of_one` meets its contract; the laws that it needs are in OneReturns.
use native.Mathlib.Omega.{arith}
use Rattle.geometry.proofs.CellLaws.{Valid, valid_of, grid_x, grid_y}
use Rattle.area.proofs.OneReturns.{grown_valid, area_less, area_extra}
use Rattle.area.proofs.one.extra_of_one.Goals as goal

pub grow-g-requires-clause-x_bound : goal.grow-g-requires-clause-x_bound
grow-g-requires-clause-x_bound c = search grid_x

pub grow-g-requires-clause-y_bound : goal.grow-g-requires-clause-y_bound
grow-g-requires-clause-y_bound c = search grid_y

pub area-requires : goal.area-requires
area-requires c =
    let v : Valid c.grow-g.result = search grown_valid in
    omega arith

pub area-requires-2 : goal.area-requires-2
area-requires-2 c =
    let v : Valid c.args.r = search valid_of in
    omega arith

pub overflow_sub-result : goal.overflow_sub-result
overflow_sub-result c = search area_less

pub returns : goal.returns
returns c = search area_extra
