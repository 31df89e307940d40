-- `check::siblings_apart` meets its contract; its loop is in CheckLoops.
use Rattle.cover.specs.Tests.{pairs_pass}
use Rattle.soundness.specs.Check.{parts_apart}
use Rattle.soundness.proofs.CheckLoops.{Siblings}
use Rattle.soundness.proofs.check.siblings_apart.Given as goal

abbrev pub invariant-loop-i : goal.invariant-loop-i
invariant-loop-i l = Siblings l.m l.ks l.i (pairs_pass (parts_apart l.m) l.ks)
