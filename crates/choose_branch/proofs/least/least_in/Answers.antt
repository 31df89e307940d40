-- `least::least_in` meets its contract; its loop is in LeastLoops.
use Rattle.choose_branch.proofs.LeastLoops.{compared_valid, compare_lesser, compare_same, compare_end}
use Rattle.choose_branch.proofs.least.least_in.Goals as goal
use Rattle.choose_branch.proofs.least.least_in.Goals.{then-extra-best, else-extra-best}

pub extra_area-extra-requires-clause-i_value : goal.extra_area-extra-requires-clause-i_value
extra_area-extra-requires-clause-i_value c = search compared_valid

pub loop-i-preserved : goal.loop-i-preserved
loop-i-preserved c = elim c.if-extra-best.branch [ then-extra-best w ↦ search compare_lesser | else-extra-best w ↦ search compare_same ]

pub returns : goal.returns
returns c = search compare_end
