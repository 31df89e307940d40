-- `writing::write_wkb` meets its contract.
use Rattle.std.proofs.Common.{rules}
use native.Mathlib.Omega.{arith}
use Rattle.geometry.proofs.NumberLaws.{length_rects}
use Rattle.drawing.proofs.WkbReturns.{bad_polygon, polygon_is, short_output, written}
use Rattle.drawing.proofs.PolygonCutReturns.{few_rects}
use Rattle.drawing.proofs.writing.write_wkb.Goals as goal

pub returns-in_err-accept : goal.returns-in_err-accept
returns-in_err-accept c = bad_polygon _ _ _ _ c.is_list.ensures c.accept.ensures _ _ c.in_err-accept.was c.from_residual.ensures.1

pub overflow_mul-bytes : goal.overflow_mul-bytes
overflow_mul-bytes c =
    let f = few_rects _ _ (polygon_is _ c.args.out.now _ _ c.is_list.ensures c.accept.ensures c.in_ok-accept.was) in
    omega arith

pub overflow_add-bytes : goal.overflow_add-bytes
overflow_add-bytes c =
    let f = few_rects _ _ (polygon_is _ c.args.out.now _ _ c.is_list.ensures c.accept.ensures c.in_ok-accept.was) in
    omega arith

pub returns-then-out-bytes : goal.returns-then-out-bytes
returns-then-out-bytes c = search (short_output, c.in_ok-accept.was)

pub put_collection-requires : goal.put_collection-requires
put_collection-requires c = rw (c.new.ensures, length_rects) (search rules)

pub returns : goal.returns
returns c =
    let o = rw c.new.ensures at c.put_collection.ensures in
    search (written, o, c.in_ok-accept.was)
