-- `numbers::put_rects` meets its contract; its loop is in PutLoop.
use Rattle.geometry.specs.Rects.{rects_left}
use Rattle.geometry.proofs.PutLoop.{Putting}
use Rattle.geometry.proofs.numbers.put_rects.Given as goal

abbrev pub invariant-loop-r : goal.invariant-loop-r
invariant-loop-r l = Putting l.initial.list l.n (rects_left l.fn.rects) (rects_left l.r-iterator) l.list l.m
