-- `replaying::replay` meets its contract; its loop is in ReplayLoop.
use Rattle.replay.proofs.CodedReturns.{fits_of}
use Rattle.replay.proofs.ReplayLoop.{replay_start, replay_again, replay_less, replay_end}
use Rattle.replay.proofs.replaying.replay.Goals as goal

pub loop-m-init : goal.loop-m-init
loop-m-init c = search replay_start

pub make_one-requires : goal.make_one-requires
make_one-requires c = search fits_of

pub loop-m-smaller : goal.loop-m-smaller
loop-m-smaller c = search (replay_less, fits_of)

pub loop-m-preserved : goal.loop-m-preserved
loop-m-preserved c = search (replay_again, fits_of)

pub returns : goal.returns
returns c = search replay_end
