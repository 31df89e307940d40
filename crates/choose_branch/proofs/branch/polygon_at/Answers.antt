-- `branch::polygon_at` meets its contract.
use Rattle.choose_branch.proofs.ChildParts.{rects_few}
use Rattle.choose_branch.proofs.branch.polygon_at.Goals as goal

pub of_rects-requires : goal.of_rects-requires
of_rects-requires c = search rects_few
