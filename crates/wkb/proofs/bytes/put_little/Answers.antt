-- `bytes::put_little` meets its contract.
use Rattle.wkb.proofs.LittleLoop.{writing_start, writing_again, writing_end}
use Rattle.wkb.proofs.bytes.put_little.Goals as goal

pub loop-i-init : goal.loop-i-init
loop-i-init c = search writing_start

pub loop-i-preserved : goal.loop-i-preserved
loop-i-preserved c = search writing_again

pub returns : goal.returns
returns c = search writing_end
