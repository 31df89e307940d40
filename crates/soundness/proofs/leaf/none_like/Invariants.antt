-- `leaf::none_like` meets its contract; its loop is in LeafLaws.
use Prim.Native.Nat.{◌+◌}
use lib.ListN.{drop}
use Rattle.plane.specs.Fanout.{fanout}
use Rattle.memory.specs.Layout.{entry_in, entries_in}
use Rattle.cover.specs.Tests.{all_pass}
use Rattle.memory.specs.SoundTest.{apart_test}
use Rattle.soundness.proofs.LeafLaws.{Unlike}
use Rattle.soundness.proofs.leaf.none_like.Given as goal

abbrev pub invariant-loop-j : goal.invariant-loop-j
invariant-loop-j l = Unlike l.p l.n l.i l.j (all_pass (apart_test fanout 0 (entry_in l.p l.i)) (drop (l.i + 1) (entries_in l.p l.n)))
