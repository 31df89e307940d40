-- `leaf::entries_apart` meets its contract; its loop is in LeafLaws.
use Rattle.plane.specs.Fanout.{fanout}
use Rattle.memory.specs.Layout.{item_count, entries_in}
use Rattle.cover.specs.Tests.{pairs_pass}
use Rattle.memory.specs.SoundTest.{apart_test}
use Rattle.soundness.proofs.LeafLaws.{Differing}
use Rattle.soundness.proofs.leaf.entries_apart.Given as goal

abbrev pub invariant-loop-i : goal.invariant-loop-i
invariant-loop-i l = Differing l.p l.count l.i (pairs_pass (apart_test fanout 0) (entries_in l.p (item_count l.p)))
