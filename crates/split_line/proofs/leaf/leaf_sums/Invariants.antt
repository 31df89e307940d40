-- `leaf::leaf_sums` meets its contract; its loop is in SumLaws.
use lib.ListN.{length}
use Rattle.memory.specs.Layout.{item_count}
use Rattle.split_line.proofs.SumLaws.{AtSum}
use Rattle.split_line.proofs.leaf.leaf_sums.Given as goal

abbrev pub invariant-loop-e : goal.invariant-loop-e
invariant-loop-e l = AtSum l.p l.c (item_count l.p) (length l.yielded) l.sums
