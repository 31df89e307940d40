-- `totals::total_area` meets its contract; its loop is in TotalLoop.
use Rattle.geometry.specs.Rects.{rects_left}
use Rattle.area.proofs.TotalLoop.{Totaling}
use Rattle.area.proofs.totals.total_area.Given as goal

abbrev pub invariant-loop-r : goal.invariant-loop-r
invariant-loop-r l = Totaling (rects_left l.fn.rects) (rects_left l.r-iterator) l.sum
