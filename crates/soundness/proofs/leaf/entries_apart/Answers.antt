-- `leaf::entries_apart` meets its contract; its loop is in LeafLaws.
use borrow.Author.Tests.{not-true, not-false}
use Rattle.soundness.proofs.LeafLaws.{differ_start, differ_stop, differ_on, differ_end, differ_all}
use Rattle.soundness.proofs.leaf.entries_apart.Goals as goal

pub loop-i-init : goal.loop-i-init
loop-i-init c = search differ_start

pub returns-then-count-i : goal.returns-then-count-i
returns-then-count-i c = search differ_end

pub returns-then-not-none_like : goal.returns-then-not-none_like
returns-then-not-none_like c = search (differ_stop, not-true)

pub loop-i-preserved : goal.loop-i-preserved
loop-i-preserved c = search (differ_on, not-false)

pub returns : goal.returns
returns c = search differ_all
