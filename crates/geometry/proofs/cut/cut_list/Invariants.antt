-- `cut::cut_list` meets its contract; its loop is in FillLoops.
use Rattle.geometry.specs.Rects.{rects_left}
use Rattle.geometry.proofs.CutLaws.{cut_by}
use Rattle.geometry.proofs.FillLoops.{Filling}
use Rattle.geometry.proofs.cut.cut_list.Given as goal

abbrev pub invariant-loop-r : goal.invariant-loop-r
invariant-loop-r l = Filling (cut_by l.s) (rects_left l.fn.rects) (rects_left l.r-iterator) l.initial.out l.out l.m
