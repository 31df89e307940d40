-- `candidates::is_right` meets its contract.
use Rattle.split_line.proofs.LineTests.{right_x, right_y}
use Rattle.split_line.proofs.candidates.is_right.Goals as goal

pub returns-in-AtX : goal.returns-in-AtX
returns-in-AtX c = search right_x

pub returns-in-AtY : goal.returns-in-AtY
returns-in-AtY c = search right_y
