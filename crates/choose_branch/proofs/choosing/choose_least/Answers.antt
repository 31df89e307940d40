-- `choosing::choose_least` meets its contract; its returns are in ChooseReturns.
use borrow.Author.Rules.{rules}
use Rattle.choose_branch.proofs.ChooseReturns.{least_place, least_rect, over_way, rects_few, grown_way, grown_removed}
use Rattle.choose_branch.proofs.choosing.choose_least.Goals as goal

pub put_grown-requires : goal.put_grown-requires
put_grown-requires c = record {
  branches = search rules;
  inside = search least_place;
  rect_inside = search least_rect;
  grid = search rules;
  list_room = search rules;
  spare_room = search rules;
}

pub returns-in_err-grown-clause-choice_is : goal.returns-in_err-grown-clause-choice_is
returns-in_err-grown-clause-choice_is c = search (over_way, c.in_err-grown.ensures.written)

pub of_rects-requires : goal.of_rects-requires
of_rects-requires c = search (rects_few, c.in_ok-grown.ensures.written)

pub returns-clause-choice_is : goal.returns-clause-choice_is
returns-clause-choice_is c = search (grown_way, c.in_ok-grown.ensures.written)

pub returns-clause-removed_at : goal.returns-clause-removed_at
returns-clause-removed_at c = search (grown_removed, c.in_ok-grown.ensures.removed_by)
