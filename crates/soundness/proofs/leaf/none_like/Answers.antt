-- `leaf::none_like` meets its contract; its loop is in LeafLaws.
use Rattle.soundness.proofs.LeafLaws.{unlike_start, unlike_next, unlike_past, unlike_stop, unlike_end}
use Rattle.soundness.proofs.leaf.none_like.Goals as goal
use Rattle.soundness.proofs.leaf.none_like.Goals.{else-eq-via-then-eq+else-j-n, else-eq-via-else-eq}

pub loop-j-init : goal.loop-j-init
loop-j-init c = search unlike_start

pub returns-then-j-n : goal.returns-then-j-n
returns-then-j-n c = search unlike_stop

pub loop-j-preserved : goal.loop-j-preserved
loop-j-preserved c = elim c.else-eq.branch [ else-eq-via-then-eq+else-j-n w ↦ search unlike_past | else-eq-via-else-eq w ↦ search unlike_next ]

pub returns : goal.returns
returns c = search unlike_end
