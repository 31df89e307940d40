-- `geometries::put_ring` meets its contract.
use borrow.Author.Rules.{rules}
use Rattle.wkb.proofs.GeometryReturns.{ring_written}
use Rattle.wkb.proofs.geometries.put_ring.Goals as goal

pub returns : goal.returns
returns c =
    ring_written _ _ _ _ _ _ (search rules)
    c.put_side.ensures
    c.put_side-2.ensures
    c.put_point.ensures
