-- `sides::clipped` meets its contract; its loop is in ClipLoop.
use Rattle.geometry.specs.Numbers.{rects_of}
use Rattle.tree_after.proofs.ClipLoop.{AtClip}
use Rattle.tree_after.proofs.sides.clipped.Given as goal

abbrev pub invariant-loop-side : goal.invariant-loop-side
invariant-loop-side l = AtClip l.sides (rects_of l.initial.q) l.q l.side-index
