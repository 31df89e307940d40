-- `split::find_byte` meets its contract.

use Rattle.commands.proofs.SplitLaws.{piece_found}
use Rattle.commands.proofs.split.find_byte.Goals as goal

pub returns : goal.returns
returns c = rw c.unwrap_or.ensures (piece_found c.args.byte c.args.s.now c.args.from c.place_of.result c.requires c.place_of.ensures)
