-- `place::entry_place` meets its contract; its loop is in PlaceLoops.
use Prim.Native.Nat.{◌-◌}
use Rattle.memory.specs.Layout.{item_count}
use Rattle.removal.proofs.PlaceLoops.{SeekEntry}
use Rattle.removal.proofs.place.entry_place.Given as goal

abbrev pub invariant-loop-c : goal.invariant-loop-c
invariant-loop-c l = SeekEntry l.p l.c l.i

abbrev pub decreases-loop-c : goal.decreases-loop-c
decreases-loop-c l = item_count l.p - l.i
