-- `cut::cut_polygon` meets its contract; its loop is in CutLoops.
use Rattle.geometry.specs.Numbers.{rects_of}
use Rattle.geometry.proofs.CutLoops.{Cutting}
use Rattle.geometry.proofs.cut.cut_polygon.Given as goal

abbrev pub invariant-loop-s : goal.invariant-loop-s
invariant-loop-s l = Cutting l.initial.list l.n (rects_of l.fn.p) l.initial.spare l.list l.spare l.m l.s-index
