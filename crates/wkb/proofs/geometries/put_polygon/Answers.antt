-- `geometries::put_polygon` meets its contract.
use borrow.Author.Rules.{rules}
use Rattle.wkb.proofs.GeometryReturns.{polygon_written}
use Rattle.wkb.proofs.geometries.put_polygon.Goals as goal

pub returns : goal.returns
returns c =
    polygon_written _ _ _ _ _ _ (search rules)
    c.put_header.ensures
    c.put_little.ensures
    c.put_ring.ensures
