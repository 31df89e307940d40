-- `common::put_common_with` meets its contract; its loop is in FillLoops.
use Rattle.geometry.specs.Numbers.{rects_of}
use Rattle.geometry.proofs.FillLoops.{Adding}
use Rattle.geometry.proofs.common.put_common_with.Given as goal

abbrev pub invariant-loop-s : goal.invariant-loop-s
invariant-loop-s l = Adding l.r (rects_of l.fn.p) l.initial.list l.n l.list l.m l.s-index
