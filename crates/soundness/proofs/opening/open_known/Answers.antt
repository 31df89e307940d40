-- `opening::open_known` meets its contract.
use Rattle.soundness.proofs.ReadsLaws.{known_reads}
use Rattle.soundness.proofs.opening.open_known.Goals as goal

pub reopen-requires : goal.reopen-requires
reopen-requires c = search known_reads
