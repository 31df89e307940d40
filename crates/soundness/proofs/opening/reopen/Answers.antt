-- `opening::reopen` meets its contract; its returns are in ReadsLaws.
use Rattle.soundness.proofs.ReadsLaws.{reads_long, reopen_empty, reopen_tree}
use Rattle.soundness.proofs.opening.reopen.Goals as goal

pub tree_height-height-requires : goal.tree_height-height-requires
tree_height-height-requires c = search reads_long

pub returns-then-height-eq0 : goal.returns-then-height-eq0
returns-then-height-eq0 c = search reopen_empty

pub root_part-part-requires : goal.root_part-part-requires
root_part-part-requires c = search reads_long

pub returns : goal.returns
returns c = search reopen_tree
