-- `below::remove_below` meets its contract, with the level as its measure; its ways are in BelowReturns.
use Rattle.removal.proofs.below.+remove_below.Given as goal

abbrev pub decreases-remove_below : goal.decreases-remove_below
decreases-remove_below l = l.level
