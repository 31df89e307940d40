-- `cut::put_cut` meets its contract; the laws that it needs are in AppendLaws.
use Rattle.geometry.proofs.AppendLaws.{cut_shared, cut_apart}
use Rattle.geometry.proofs.cut.put_cut.Goals as goal

pub returns-then-shares : goal.returns-then-shares
returns-then-shares c = search cut_shared

pub returns : goal.returns
returns c = search cut_apart
