-- `replaying::make_one` meets its contract; the laws that it needs are in CallReturns.
use Rattle.replay.specs.Coded.{part_for, part_back}
use Rattle.replay.proofs.CallReturns.{one_made}
use Rattle.replay.proofs.replaying.make_one.Goals as goal

pub returns : goal.returns
unfolding part_for part_back
returns c = search one_made
