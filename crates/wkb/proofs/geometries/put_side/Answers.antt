-- `geometries::put_side` meets its contract.
use borrow.Author.Rules.{rules}
use Rattle.wkb.proofs.GeometryReturns.{side_written}
use Rattle.wkb.proofs.geometries.put_side.Goals as goal

pub returns : goal.returns
returns c =
    side_written _ _ _ _ _ _ _ (search rules)
    c.put_point.ensures
    c.put_point-2.ensures
