-- `scan::first_join` meets its contract; what its loop says is in FindLaws.
use Rattle.refinement.proofs.FindLaws.{passed_on, two_some, two_none}
use Rattle.refinement.proofs.scan.first_join.Goals as goal

pub returns-in-Some : goal.returns-in-Some
returns-in-Some c = search two_some

pub loop-i-preserved : goal.loop-i-preserved
loop-i-preserved c = search passed_on

pub returns : goal.returns
returns c = search two_none
