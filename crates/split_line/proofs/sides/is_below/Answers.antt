-- `sides::is_below` meets its contract.
use Rattle.geometry.specs.Clip.{below}
use Rattle.split_line.proofs.sides.is_below.Goals as goal

pub returns-in-AtX : goal.returns-in-AtX
unfolding below
returns-in-AtX c = rw c.in-AtX.is

pub returns-in-AtY : goal.returns-in-AtY
unfolding below
returns-in-AtY c = rw c.in-AtY.is
