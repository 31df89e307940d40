-- `polygon_cut::removed_from` meets its contract.
use Rattle.std.proofs.Common.{rules}
use native.Mathlib.Omega.{arith}
use Rattle.drawing.proofs.PolygonCutReturns.{few_rects, polygon_fits_lem, polygon_count, list_fits, both_fit, both_valid, both_removed}
use Rattle.drawing.proofs.polygon_cut.removed_from.Goals as goal

pub put_rects-k-requires : goal.put_rects-k-requires
put_rects-k-requires c =
    let f = polygon_fits_lem _ c.requires.polygon_value in
    rw c.new.ensures (omega arith)

pub put_rects-requires : goal.put_rects-requires
put_rects-requires c =
    let u = rw c.new.ensures at c.put_rects-k.ensures in
    rw c.new-2.ensures (list_fits _ _ _ _ _ c.requires.polygon_value u (search rules) c.requires.list_value)

pub removed_cells-requires-clause-k_bound : goal.removed_cells-requires-clause-k_bound
removed_cells-requires-clause-k_bound c =
    let u = rw c.new.ensures at c.put_rects-k.ensures in
    search (polygon_count, u)

pub removed_cells-requires-clause-n_bound : goal.removed_cells-requires-clause-n_bound
removed_cells-requires-clause-n_bound c = search few_rects

pub removed_cells-requires-clause-n_in_bounds : goal.removed_cells-requires-clause-n_in_bounds
removed_cells-requires-clause-n_in_bounds c =
    let u = rw c.new.ensures at c.put_rects-k.ensures in
    let w = rw c.new-2.ensures at c.put_rects.ensures in
    search (both_fit, u, w)

pub removed_cells-requires-clause-n_value : goal.removed_cells-requires-clause-n_value
removed_cells-requires-clause-n_value c =
    let u = rw c.new.ensures at c.put_rects-k.ensures in
    let w = rw c.new-2.ensures at c.put_rects.ensures in
    search (both_valid, u, w)

pub returns : goal.returns
returns c =
    let u = rw c.new.ensures at c.put_rects-k.ensures in
    let w = rw c.new-2.ensures at c.put_rects.ensures in
    search (both_removed, u, w)
