-- `least_distance` meets its contract; its loop is in LeastLoop.
use Rattle.geometry.specs.Rects.{rects_left}
use Rattle.distance.proofs.LeastLoop.{Least}
use Rattle.distance.proofs.least.least_distance.Given as goal

abbrev pub invariant-loop-r : goal.invariant-loop-r
invariant-loop-r l = Least l.c (rects_left l.fn.rects) (rects_left l.r-iterator) l.best
