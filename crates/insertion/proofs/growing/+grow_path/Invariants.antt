-- `growing::grow_path` meets its contract, with the level as its measure; its ways are in GrowReturns.
use Rattle.insertion.proofs.growing.+grow_path.Given as goal

abbrev pub decreases-grow_path : goal.decreases-grow_path
decreases-grow_path l = l.level
