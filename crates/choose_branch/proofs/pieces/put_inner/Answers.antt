-- `pieces::put_inner` meets its contract; its returns are in GrownReturns.
use Rattle.geometry.proofs.CellLaws.{valid_wide, valid_high}
use Rattle.choose_branch.proofs.GrownReturns.{counted_few, inner_over, inner_parts, parts_over}
use Rattle.choose_branch.proofs.RemovedLaws.{pieces_valid, left_less, removed_left}
use Rattle.choose_branch.proofs.pieces.put_inner.Goals as goal

pub returns-in_err-n-clause-written : goal.returns-in_err-n-clause-written
returns-in_err-n-clause-written c = search (inner_over, c.in_err-n.ensures.written)

pub total_area-remaining-requires-clause-few : goal.total_area-remaining-requires-clause-few
total_area-remaining-requires-clause-few c = search (counted_few, c.in_ok-n.ensures.written)

pub total_area-remaining-requires-clause-rects_value : goal.total_area-remaining-requires-clause-rects_value
total_area-remaining-requires-clause-rects_value c = search (pieces_valid, c.in_ok-n.ensures.written)

pub area-requires-clause-llx_le_urx : goal.area-requires-clause-llx_le_urx
area-requires-clause-llx_le_urx c = search valid_wide

pub area-requires-clause-lly_le_ury : goal.area-requires-clause-lly_le_ury
area-requires-clause-lly_le_ury c = search valid_high

pub overflow_sub-removed : goal.overflow_sub-removed
overflow_sub-removed c = search (left_less, c.in_ok-n.ensures.written)

pub returns-in_err-rects-clause-written : goal.returns-in_err-rects-clause-written
returns-in_err-rects-clause-written c = search (parts_over, c.in_ok-n.ensures.written, c.in_err-rects.ensures)

pub returns-clause-written : goal.returns-clause-written
returns-clause-written c = search (inner_parts, c.in_ok-n.ensures.written, c.in_ok-rects.ensures)

pub returns-clause-removed_by : goal.returns-clause-removed_by
returns-clause-removed_by c = search (removed_left, c.in_ok-n.ensures.written)
