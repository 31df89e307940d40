-- `writing::put_tree` meets its contract; the laws that it needs are in WritingLaws.
use Rattle.layout.proofs.WritingLaws.{writes}
use Rattle.layout.proofs.writing.put_tree.Goals as goal

pub returns : goal.returns
returns c = search writes
