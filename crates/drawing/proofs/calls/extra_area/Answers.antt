-- `calls::extra_area` meets its contract.
use Rattle.drawing.proofs.GrowLoop.{unfit_rect, unfit_cell, fit_rect, fit_cell, fit}
use Rattle.drawing.proofs.calls.extra_area.Goals as goal

pub returns-in_err-accept : goal.returns-in_err-accept
returns-in_err-accept c = unfit_rect _ _ _ _ c.is_valid.ensures c.accept.ensures _ _ c.in_err-accept.was c.from_residual.ensures.1

pub returns-in_err-accept-2 : goal.returns-in_err-accept-2
returns-in_err-accept-2 c =
    unfit_cell _ _ _ _ c.is_valid.ensures c.accept.ensures c.in_ok-accept.was _ _ c.on_grid.ensures c.accept-2.ensures _ _
    c.in_err-accept-2.was c.from_residual-in_err-accept-2.ensures.1

pub extra_of_one-requires-clause-r_value : goal.extra_of_one-requires-clause-r_value
extra_of_one-requires-clause-r_value c = search (fit_rect, c.in_ok-accept.was)

pub extra_of_one-requires-clause-c_value : goal.extra_of_one-requires-clause-c_value
extra_of_one-requires-clause-c_value c = search (fit_cell, c.in_ok-accept.was, c.in_ok-accept-2.was)

pub returns : goal.returns
returns c = search (fit, c.in_ok-accept.was, c.in_ok-accept-2.was)
