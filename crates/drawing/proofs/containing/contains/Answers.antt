-- `containing::contains` meets its contract.
use Rattle.drawing.proofs.ContainsReturns.{no_polygon, off_grid, tested}
use Rattle.drawing.proofs.containing.contains.Goals as goal

pub returns-in_err-accept : goal.returns-in_err-accept
returns-in_err-accept c = no_polygon _ _ _ _ c.is_list.ensures c.accept.ensures _ _ c.in_err-accept.was c.from_residual.ensures.1

pub returns-in_err-accept-2 : goal.returns-in_err-accept-2
returns-in_err-accept-2 c =
    off_grid _ _ _ _ c.is_list.ensures c.accept.ensures c.in_ok-accept.was _ _ c.on_grid.ensures c.accept-2.ensures _ _
    c.in_err-accept-2.was c.from_residual-in_err-accept-2.ensures.1

pub returns : goal.returns
returns c =
    let v = rw c.new.ensures at c.contains.ensures in
    search (tested, v, c.in_ok-accept.was, c.in_ok-accept-2.was)
