-- `candidates::is_left` meets its contract.
use Rattle.split_line.specs.Extents.{rect_extent}
use Rattle.split_line.proofs.candidates.is_left.Goals as goal

pub returns-in-AtX : goal.returns-in-AtX
unfolding rect_extent
returns-in-AtX c = rw c.in-AtX.is

pub returns-in-AtY : goal.returns-in-AtY
unfolding rect_extent
returns-in-AtY c = rw c.in-AtY.is
