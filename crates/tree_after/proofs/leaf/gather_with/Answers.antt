-- `leaf::gather_with` meets its contract; its returns are in PathLeaf.
use Rattle.tree_after.proofs.PathLeaf.{with_miss, with_hit}
use Rattle.tree_after.proofs.leaf.gather_with.Goals as goal

pub returns-then-on_all : goal.returns-then-on_all
returns-then-on_all c = search with_hit

pub returns : goal.returns
returns c = search with_miss
