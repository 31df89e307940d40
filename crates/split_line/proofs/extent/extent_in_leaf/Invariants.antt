-- `extent::extent_in_leaf` meets its contract; its loop is in ExtentWalk.
use lib.ListN.{length}
use Rattle.memory.specs.Layout.{item_count}
use Rattle.split_line.proofs.ExtentWalk.{ExtentLeaf}
use Rattle.split_line.proofs.extent.extent_in_leaf.Given as goal

abbrev pub invariant-loop-e : goal.invariant-loop-e
invariant-loop-e l = ExtentLeaf l.sides l.p (item_count l.p) (length l.yielded) l.extent
