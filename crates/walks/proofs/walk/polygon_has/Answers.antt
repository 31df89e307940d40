-- `walk::polygon_has` meets its contract; the laws that it needs are in WalkParts.
use Rattle.walks.proofs.WalkParts.{polygon_has_lem}
use Rattle.walks.proofs.walk.polygon_has.Goals as goal

pub returns : goal.returns
returns c = search polygon_has_lem
