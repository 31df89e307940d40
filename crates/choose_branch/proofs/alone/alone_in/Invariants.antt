-- `alone::alone_in` meets its contract.
use Rattle.std.proofs.Common.{◌≡◌, true}
use Rattle.geometry.specs.Cells.{all_valid}
use Rattle.geometry.specs.Rects.{rects_left}
use Rattle.choose_branch.specs.Least.{alone_in}
use Rattle.choose_branch.proofs.alone.alone_in.Given as goal

abbrev pub invariant-loop-r : goal.invariant-loop-r
invariant-loop-r l = record {
  valid : all_valid (rects_left l.r-iterator) ≡ true;
  rest : alone_in l.c l.known (rects_left l.fn.rects) ≡ alone_in l.c l.least (rects_left l.r-iterator);
}
