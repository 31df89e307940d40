-- `leaf::gather` meets its contract: the leaf has the entries that the loop has taken.
use mathlib.Core.List.{map}
use mathlib.Core.Path.{◌≡◌}
use Rattle.layout.specs.Entries.{tree_entry}
use Rattle.layout.specs.Loaded.{leaf_of}
use Rattle.tree_after.proofs.leaf.gather.Given as goal

abbrev pub invariant-loop-e : goal.invariant-loop-e
invariant-loop-e l = l.remaining ≡ leaf_of (map tree_entry l.yielded)
