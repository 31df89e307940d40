-- `calls::common` meets its contract.
use native.Mathlib.Omega.{arith}
use Prim.Native.Nat.{◌≤◌}
use Rattle.geometry.proofs.CutLoops.{few_of_lem}
use Rattle.drawing.specs.Calls.{valid_with_rect, common_drawn}
use Rattle.drawing.proofs.Returns.{first_refused, third_refused, out_long, common_over, common_wrote}
use Rattle.drawing.proofs.calls.common.Goals as goal

pub returns-in_err-accept_lists : goal.returns-in_err-accept_lists
unfolding valid_with_rect
returns-in_err-accept_lists c = first_refused _ _ _ c.accept_lists.ensures _ _ c.in_err-accept_lists.was c.from_residual.ensures.1 _ _

pub returns-in_err-accept : goal.returns-in_err-accept
unfolding valid_with_rect
returns-in_err-accept c =
    third_refused _ _ _ _ _ c.accept_lists.ensures c.in_ok-accept_lists.was _ _ c.is_valid.ensures c.accept.ensures _ _
    c.in_err-accept.was c.from_residual-in_err-accept.ensures.1

pub returns-in_err-m : goal.returns-in_err-m
unfolding valid_with_rect common_drawn
returns-in_err-m c =
    let v = rw c.new.ensures at c.common_parts.ensures in
    let e = c.from_residual-in_err-m.ensures.1 in
    search (common_over, v, e, c.in_err-m.was, c.in_ok-accept_lists.was, c.in_ok-accept.was)

pub copy-requires-clause-n_in_bounds_2 : goal.copy-requires-clause-n_in_bounds_2
copy-requires-clause-n_in_bounds_2 c =
    let f = out_long _ _ _ c.accept_lists.ensures c.in_ok-accept_lists.was in
    let g : c.in_ok-m.m ≤ 256 = search (few_of_lem, c.in_ok-m.was) in
    omega arith

pub returns : goal.returns
unfolding valid_with_rect common_drawn
returns c =
    let v = rw c.new.ensures at c.common_parts.ensures in
    search (common_wrote, v, c.in_ok-m.was, c.in_ok-accept_lists.was, c.in_ok-accept.was)
