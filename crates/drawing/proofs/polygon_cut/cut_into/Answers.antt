-- `polygon_cut::cut_into` meets its contract.
use native.Mathlib.Omega.{arith}
use Prim.Native.Nat.{◌≤◌}
use Rattle.geometry.proofs.CutLoops.{few_of_lem}
use Rattle.drawing.specs.Calls.{valid_with_polygon, cut_polygon_drawn}
use Rattle.drawing.proofs.Accepted.{is_true}
use Rattle.geometry.proofs.NumberLaws.{length_rects}
use Rattle.drawing.proofs.Returns.{first_refused, third_refused, out_long, list_short, list_few, polygon_over, polygon_wrote}
use Rattle.drawing.proofs.polygon_cut.cut_into.Goals as goal

pub returns-in_err-accept_lists : goal.returns-in_err-accept_lists
unfolding valid_with_polygon
returns-in_err-accept_lists c = first_refused _ _ _ c.accept_lists.ensures _ _ c.in_err-accept_lists.was c.from_residual.ensures.1 _ _

pub returns-in_err-accept : goal.returns-in_err-accept
unfolding valid_with_polygon
returns-in_err-accept c =
    third_refused _ _ _ _ _ c.accept_lists.ensures c.in_ok-accept_lists.was _ _ c.is_list.ensures c.accept.ensures _ _
    c.in_err-accept.was c.from_residual-in_err-accept.ensures.1

pub copy-requires-clause-n_in_bounds_2 : goal.copy-requires-clause-n_in_bounds_2
copy-requires-clause-n_in_bounds_2 c =
    let f = out_long _ _ _ c.accept_lists.ensures c.in_ok-accept_lists.was in
    let g = list_short _ _ _ c.accept_lists.ensures c.in_ok-accept_lists.was in
    omega arith

pub of_rects-p-requires : goal.of_rects-p-requires
of_rects-p-requires c = rw c.new.ensures (rw length_rects (list_few _ _ _ c.is_list.ensures (is_true _ _ c.accept.ensures c.in_ok-accept.was)))

pub cut_polygon-requires-clause-n_bound : goal.cut_polygon-requires-clause-n_bound
cut_polygon-requires-clause-n_bound c =
    let f = out_long _ _ _ c.accept_lists.ensures c.in_ok-accept_lists.was in
    let g = list_short _ _ _ c.accept_lists.ensures c.in_ok-accept_lists.was in
    omega arith

pub returns-in_err-m : goal.returns-in_err-m
unfolding valid_with_polygon cut_polygon_drawn
returns-in_err-m c =
    let o = rw c.new.ensures at c.of_rects-p.ensures in
    let e = c.from_residual-in_err-m.ensures.1 in
    search (polygon_over, o, e, c.in_err-m.was, c.in_ok-accept_lists.was, c.in_ok-accept.was)

pub copy-requires-2-clause-n_in_bounds_2 : goal.copy-requires-2-clause-n_in_bounds_2
copy-requires-2-clause-n_in_bounds_2 c =
    let f = out_long _ _ _ c.accept_lists.ensures c.in_ok-accept_lists.was in
    let g : c.in_ok-m.m ≤ 256 = search (few_of_lem, c.in_ok-m.was) in
    omega arith

pub returns : goal.returns
unfolding valid_with_polygon cut_polygon_drawn
returns c =
    let o = rw c.new.ensures at c.of_rects-p.ensures in
    search (polygon_wrote, o, c.in_ok-m.was, c.in_ok-accept_lists.was, c.in_ok-accept.was)
