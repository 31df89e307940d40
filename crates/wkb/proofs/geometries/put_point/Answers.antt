-- `geometries::put_point` meets its contract.
use borrow.Author.Rules.{rules}
use Rattle.wkb.proofs.GeometryReturns.{point_written}
use Rattle.wkb.proofs.geometries.put_point.Goals as goal

pub returns : goal.returns
returns c =
    point_written _ _ _ _ _ _ (search rules)
    c.put_double.ensures
    c.put_double-2.ensures
