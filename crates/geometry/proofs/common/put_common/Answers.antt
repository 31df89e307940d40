-- `common::put_common` meets its contract; the laws that it needs are in AppendLaws.
use Rattle.geometry.proofs.AppendLaws.{put_part, put_none}
use Rattle.geometry.proofs.common.put_common.Goals as goal

pub returns-in-Some : goal.returns-in-Some
returns-in-Some c = search put_part

pub returns : goal.returns
returns c = search put_none
