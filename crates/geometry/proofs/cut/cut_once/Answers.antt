-- `cut::cut_once` meets its contract; the laws that it needs are in CutLoops.
use Rattle.std.proofs.Common.{rules}
use Rattle.geometry.proofs.CutLoops.{uncut_written, over_written, copied}
use Rattle.geometry.proofs.cut.cut_once.Goals as goal

pub returns-then-not-any_shares-clause-written : goal.returns-then-not-any_shares-clause-written
returns-then-not-any_shares-clause-written c =
    uncut_written _ _ _ _ (search rules) (rw c.new.ensures at c.any_shares.ensures) c.if-not-any_shares.true

pub returns-in_err-m-clause-written : goal.returns-in_err-m-clause-written
returns-in_err-m-clause-written c =
    over_written _ _ _ _ (rw c.new-2.ensures at c.cut_list.ensures) _ c.in_err-m.was _ c.from_residual.ensures.0 _

pub returns-clause-written : goal.returns-clause-written
returns-clause-written c =
    copied _ _ _ _ (rw c.new-2.ensures at c.cut_list.ensures) _ c.in_ok-m.was _ (search rules) (search rules) _ c.copy.ensures
