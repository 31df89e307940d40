-- `check::head_fits` meets its contract; the laws that it needs are in CheckLoops.
use Rattle.soundness.proofs.CheckLoops.{head_polygon}
use Rattle.soundness.proofs.check.head_fits.Goals as goal

pub polygon_rects-requires : goal.polygon_rects-requires
polygon_rects-requires c = search head_polygon
