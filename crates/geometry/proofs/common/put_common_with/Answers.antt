-- `common::put_common_with` meets its contract; its loop is in FillLoops.
use Rattle.geometry.proofs.ArrayLaws.{few_of}
use Rattle.geometry.proofs.FillLoops.{add_start, add_again, add_end}
use Rattle.geometry.proofs.common.put_common_with.Goals as goal

pub loop-s-init : goal.loop-s-init
loop-s-init c = search (add_start, few_of)

pub loop-s-preserved : goal.loop-s-preserved
loop-s-preserved c = search add_again

pub returns : goal.returns
returns c = search add_end
