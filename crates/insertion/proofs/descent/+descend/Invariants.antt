-- `descent::descend` meets its contract; the laws that it needs are in DescentLaws and DescentReturns.
use Rattle.insertion.proofs.descent.+descend.Given as goal

abbrev pub decreases-descend : goal.decreases-descend
decreases-descend l = l.level
