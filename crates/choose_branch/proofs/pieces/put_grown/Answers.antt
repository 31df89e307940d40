-- `pieces::put_grown` meets its contract; its returns are in GrownReturns.
use borrow.Author.Rules.{rules}
use Rattle.choose_branch.proofs.GrownReturns.{counted_few, rect_counted, grown_over, grown_put, put_over}
use Rattle.choose_branch.proofs.RemovedLaws.{removed_there, grown_good}
use Rattle.choose_branch.proofs.pieces.put_grown.Goals as goal

pub grown_rect-g-requires-clause-rect_bound : goal.grown_rect-g-requires-clause-rect_bound
grown_rect-g-requires-clause-rect_bound c = search rect_counted

pub put_inner-requires : goal.put_inner-requires
put_inner-requires c = record {
  branches = search rules;
  inside = search rules;
  good = search grown_good;
  list_room = search rules;
  out_room = search rules;
}

pub returns-in_err-inner-clause-written : goal.returns-in_err-inner-clause-written
returns-in_err-inner-clause-written c = search (grown_over, c.in_err-inner.ensures.written)

pub returns-in_err-rects-clause-written : goal.returns-in_err-rects-clause-written
returns-in_err-rects-clause-written c = search (put_over, c.in_ok-inner.ensures.written, c.in_err-rects.ensures)

pub put_polygon-requires-clause-rect_bound : goal.put_polygon-requires-clause-rect_bound
put_polygon-requires-clause-rect_bound c = search rect_counted

pub put_polygon-requires-clause-pieces_few : goal.put_polygon-requires-clause-pieces_few
put_polygon-requires-clause-pieces_few c = search (counted_few, c.in_ok-inner.ensures.written)

pub returns-clause-written : goal.returns-clause-written
returns-clause-written c = search (grown_put, c.in_ok-inner.ensures.written, c.in_ok-rects.ensures)

pub returns-clause-removed_by : goal.returns-clause-removed_by
returns-clause-removed_by c = search (removed_there, c.in_ok-inner.ensures.removed_by)
