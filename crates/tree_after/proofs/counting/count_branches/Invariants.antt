-- `counting::count_branches` meets its contract; its loop is in PathCount.
use Prim.Native.Nat.{◌+◌}
use Rattle.tree_after.proofs.PathCount.{RangeLoop}
use Rattle.tree_after.proofs.counting.count_branches.Given as goal

abbrev pub invariant-loop-part : goal.invariant-loop-part
invariant-loop-part l = RangeLoop l.level l.m l.k l.from l.to l.sides l.initial.nodes (l.from + l.part-index) l.nodes
