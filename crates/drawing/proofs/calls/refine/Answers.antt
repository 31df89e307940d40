-- `calls::refine` meets its contract.
use native.Mathlib.Omega.{arith}
use Rattle.drawing.specs.Calls.{valid_alone, refine_drawn}
use Rattle.drawing.proofs.Returns.{lists_refused, out_long, list_short, refine_wrote}
use Rattle.drawing.proofs.calls.refine.Goals as goal

pub returns-in_err-accept_lists : goal.returns-in_err-accept_lists
unfolding valid_alone
returns-in_err-accept_lists c = lists_refused _ _ _ c.accept_lists.ensures _ _ c.in_err-accept_lists.was c.from_residual.ensures.1 _

pub refine_in-requires-clause-n_in_bounds_3 : goal.refine_in-requires-clause-n_in_bounds_3
refine_in-requires-clause-n_in_bounds_3 c =
    let f = out_long _ _ _ c.accept_lists.ensures c.in_ok-accept_lists.was in
    let g = list_short _ _ _ c.accept_lists.ensures c.in_ok-accept_lists.was in
    omega arith

pub refine_in-requires-else-n-le-MOST_OF_POLYGON-clause-n_in_bounds_2 : goal.refine_in-requires-else-n-le-MOST_OF_POLYGON-clause-n_in_bounds_2
refine_in-requires-else-n-le-MOST_OF_POLYGON-clause-n_in_bounds_2 c =
    let f = out_long _ _ _ c.accept_lists.ensures c.in_ok-accept_lists.was in
    let g = list_short _ _ _ c.accept_lists.ensures c.in_ok-accept_lists.was in
    omega arith

pub refine_in-requires-else-n-le-MOST_OF_POLYGON-clause-n_in_bounds_3 : goal.refine_in-requires-else-n-le-MOST_OF_POLYGON-clause-n_in_bounds_3
refine_in-requires-else-n-le-MOST_OF_POLYGON-clause-n_in_bounds_3 c =
    let f = out_long _ _ _ c.accept_lists.ensures c.in_ok-accept_lists.was in
    let g = list_short _ _ _ c.accept_lists.ensures c.in_ok-accept_lists.was in
    omega arith

pub returns-then-n-le-MOST_OF_POLYGON : goal.returns-then-n-le-MOST_OF_POLYGON
unfolding valid_alone refine_drawn
returns-then-n-le-MOST_OF_POLYGON c = search (refine_wrote, c.in_ok-accept_lists.was)

pub returns-else-n-le-MOST_OF_POLYGON : goal.returns-else-n-le-MOST_OF_POLYGON
unfolding valid_alone refine_drawn
returns-else-n-le-MOST_OF_POLYGON c = search (refine_wrote, c.in_ok-accept_lists.was)
