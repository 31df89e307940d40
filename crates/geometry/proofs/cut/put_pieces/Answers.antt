-- `cut::put_pieces` meets its contract; the laws that it needs are in AppendLaws.
use Rattle.geometry.proofs.AppendLaws.{four_pieces}
use Rattle.geometry.proofs.cut.put_pieces.Goals as goal

pub returns : goal.returns
returns c = search four_pieces
