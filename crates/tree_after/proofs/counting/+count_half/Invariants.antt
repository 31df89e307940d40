-- `counting::count_half` meets its contract, with the level as its measure; the counts are in PathCount.
use Rattle.tree_after.proofs.counting.+count_half.Given as goal

abbrev pub decreases-count_half : goal.decreases-count_half
decreases-count_half l = l.level
