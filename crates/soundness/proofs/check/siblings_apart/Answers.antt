-- `check::siblings_apart` meets its contract; its loop is in CheckLoops.
use borrow.Author.Tests.{not-true, not-false}
use Rattle.soundness.proofs.CheckLoops.{siblings_start, siblings_stop, siblings_on, siblings_end}
use Rattle.soundness.proofs.check.siblings_apart.Goals as goal

pub loop-i-init : goal.loop-i-init
loop-i-init c = search siblings_start

pub returns-then-not-none_meets : goal.returns-then-not-none_meets
returns-then-not-none_meets c = search (siblings_stop, not-true)

pub loop-i-preserved : goal.loop-i-preserved
loop-i-preserved c = search (siblings_on, not-false)

pub returns : goal.returns
returns c = search siblings_end
