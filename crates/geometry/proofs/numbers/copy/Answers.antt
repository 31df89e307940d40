-- `numbers::copy` meets its contract; its loop is in CopyLoop.
use Rattle.geometry.proofs.CopyLoop.{copy_start, copy_again, copy_end}
use Rattle.geometry.proofs.numbers.copy.Goals as goal

pub loop-i-init : goal.loop-i-init
loop-i-init c = search copy_start

pub loop-i-preserved : goal.loop-i-preserved
loop-i-preserved c = search copy_again

pub returns : goal.returns
returns c = search copy_end
