-- `replaying::replay` meets its contract; its loop is in ReplayLoop.
use Prim.Native.Nat.{◌-◌}
use lib.ListN.{length}
use Rattle.replay.proofs.ReplayLoop.{Replaying}
use Rattle.replay.proofs.replaying.replay.Given as goal

abbrev pub invariant-loop-m : goal.invariant-loop-m
invariant-loop-m l = Replaying l.calls l.initial.m l.initial.lent l.initial.answers l.m l.lent l.answers l.i

abbrev pub decreases-loop-m : goal.decreases-loop-m
decreases-loop-m l = length l.calls - l.i
