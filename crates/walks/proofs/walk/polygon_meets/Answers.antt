-- `walk::polygon_meets` meets its contract; the laws that it needs are in WalkParts.
use Rattle.walks.proofs.WalkParts.{polygon_meets}
use Rattle.walks.proofs.walk.polygon_meets.Goals as goal

pub returns : goal.returns
returns c = search polygon_meets
