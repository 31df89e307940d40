-- `geometries::put_header` meets its contract.
use borrow.Author.Rules.{rules}
use Rattle.wkb.proofs.GeometryReturns.{header_written}
use Rattle.wkb.proofs.geometries.put_header.Goals as goal

pub returns : goal.returns
returns c =
    rw (← c.type_number.ensures) (header_written _ _ _ _ _ _ _ (search rules)
    c.put_little.ensures
    c.put_little-2.ensures
    c.put_little-3.ensures)
