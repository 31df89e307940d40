-- `common::common_parts` meets its contract; its loop is in FillLoops.
use Rattle.geometry.specs.Rects.{rects_left}
use Rattle.geometry.specs.Common.{common_with}
use Rattle.geometry.specs.Numbers.{rects_of}
use Rattle.geometry.proofs.FillLoops.{Filling}
use Rattle.geometry.proofs.common.common_parts.Given as goal

abbrev pub invariant-loop-r : goal.invariant-loop-r
invariant-loop-r l = Filling (common_with (rects_of l.p)) (rects_left l.fn.rects) (rects_left l.r-iterator) l.initial.out l.out l.m
