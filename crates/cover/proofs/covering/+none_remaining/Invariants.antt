-- `covering::none_remaining`: its measure is how many rectangles are left to cut.
use Rattle.std.proofs.Common.{length}
use Rattle.geometry.specs.Rects.{rects_left}
use Rattle.cover.proofs.covering.+none_remaining.Given as goal

abbrev pub decreases-none_remaining : goal.decreases-none_remaining
decreases-none_remaining l = length (rects_left l.rects)
