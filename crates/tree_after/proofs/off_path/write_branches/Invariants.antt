-- `off_path::write_branches` meets its contract; its loop is in RowLaws.
use Prim.Native.Nat.{◌+◌}
use Rattle.tree_after.proofs.RowLaws.{BranchLoop}
use Rattle.tree_after.proofs.off_path.write_branches.Given as goal

abbrev pub invariant-loop-part : goal.invariant-loop-part
invariant-loop-part l = BranchLoop l.level l.m l.k l.from l.to l.sides l.initial.work l.initial.out (l.from + l.part-index) l.work l.out
