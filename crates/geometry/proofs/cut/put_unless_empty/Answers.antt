-- `cut::put_unless_empty` meets its contract; the laws that it needs are in AppendLaws.
use Rattle.geometry.proofs.AppendLaws.{put_empty, put_filled}
use Rattle.geometry.proofs.cut.put_unless_empty.Goals as goal

pub returns-then-is_empty : goal.returns-then-is_empty
returns-then-is_empty c = search put_empty

pub returns : goal.returns
returns c = search put_filled
