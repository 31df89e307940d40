-- `lacks::lacking`: its measure is how many rectangles are left to cut.
use Rattle.std.proofs.Common.{length}
use Rattle.geometry.specs.Rects.{rects_left}
use Rattle.area.proofs.lacks.+lacking.Given as goal

abbrev pub decreases-lacking : goal.decreases-lacking
decreases-lacking l = length (rects_left l.rects)
