-- `calls::grow` meets its contract.
use native.Mathlib.Omega.{arith}
use Rattle.drawing.specs.Calls.{valid_with_cell}
use Rattle.drawing.proofs.Returns.{first_refused, third_refused, out_long, list_short}
use Rattle.drawing.proofs.GrowLoop.{on_grid_is, grow_wrote}
use Rattle.drawing.proofs.calls.grow.Goals as goal

pub returns-in_err-accept_lists : goal.returns-in_err-accept_lists
unfolding valid_with_cell
returns-in_err-accept_lists c = first_refused _ _ _ c.accept_lists.ensures _ _ c.in_err-accept_lists.was c.from_residual.ensures.1 _ _

pub returns-in_err-accept : goal.returns-in_err-accept
unfolding valid_with_cell
returns-in_err-accept c =
    third_refused _ _ _ _ _ c.accept_lists.ensures c.in_ok-accept_lists.was _ _ c.on_grid.ensures c.accept.ensures _ _
    c.in_err-accept.was c.from_residual-in_err-accept.ensures.1

pub put_grown-requires-clause-n_in_bounds : goal.put_grown-requires-clause-n_in_bounds
put_grown-requires-clause-n_in_bounds c =
    let f = out_long _ _ _ c.accept_lists.ensures c.in_ok-accept_lists.was in
    let g = list_short _ _ _ c.accept_lists.ensures c.in_ok-accept_lists.was in
    omega arith

pub put_grown-requires-clause-n_in_bounds_2 : goal.put_grown-requires-clause-n_in_bounds_2
put_grown-requires-clause-n_in_bounds_2 c =
    let f = out_long _ _ _ c.accept_lists.ensures c.in_ok-accept_lists.was in
    let g = list_short _ _ _ c.accept_lists.ensures c.in_ok-accept_lists.was in
    omega arith

pub put_grown-requires-clause-c_value : goal.put_grown-requires-clause-c_value
put_grown-requires-clause-c_value c = search (on_grid_is, c.in_ok-accept_lists.was, c.in_ok-accept.was)

pub returns : goal.returns
unfolding valid_with_cell
returns c = search (grow_wrote, c.in_ok-accept_lists.was, c.in_ok-accept.was)
