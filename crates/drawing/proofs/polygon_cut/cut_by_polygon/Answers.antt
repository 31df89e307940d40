-- `polygon_cut::cut_by_polygon` meets its contract.
use Rattle.drawing.proofs.PolygonCutReturns.{cut_refused, wrote_list, wrote_polygon, cut_wrote}
use Rattle.drawing.proofs.polygon_cut.cut_by_polygon.Goals as goal

pub returns-in_err-rects : goal.returns-in_err-rects
returns-in_err-rects c = cut_refused _ _ _ _ _ c.cut_into.ensures _ _ c.in_err-rects.was c.from_residual.ensures.1

pub removed_from-requires-clause-list_value : goal.removed_from-requires-clause-list_value
removed_from-requires-clause-list_value c = search (wrote_list, c.in_ok-rects.was)

pub removed_from-requires-clause-polygon_value : goal.removed_from-requires-clause-polygon_value
removed_from-requires-clause-polygon_value c = search (wrote_polygon, c.in_ok-rects.was)

pub returns : goal.returns
returns c = search (cut_wrote, c.in_ok-rects.was)
