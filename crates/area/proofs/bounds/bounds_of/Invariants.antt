-- `bounds::bounds_of` meets its contract; its loop is in BoundLoop.
use Rattle.geometry.specs.Rects.{rects_left}
use Rattle.area.proofs.BoundLoop.{Uniting}
use Rattle.area.proofs.bounds.bounds_of.Given as goal

abbrev pub invariant-loop-r : goal.invariant-loop-r
invariant-loop-r l = Uniting (rects_left l.fn.rects) (rects_left l.r-iterator) l.bounds
