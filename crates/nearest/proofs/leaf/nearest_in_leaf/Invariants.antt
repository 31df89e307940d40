-- `nearest_in_leaf` meets its contract.
use Rattle.memory.specs.Layout.{item_count, entries_in}
use Rattle.layout.specs.Entries.{entries_left}
use Rattle.nearest.proofs.NearLeaf.{LeafNear}
use Rattle.nearest.proofs.leaf.nearest_in_leaf.Given as goal

abbrev pub invariant-loop-e : goal.invariant-loop-e
invariant-loop-e l =
    LeafNear l.c l.initial.best (entries_in l.p (item_count l.p)) l.best (entries_left l.e-iterator)
