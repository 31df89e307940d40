-- `reading::entry_cell` meets its contract.
use Rattle.layout.proofs.LoadedLaws.{entry_placed}
use Rattle.layout.proofs.reading.entry_cell.Goals as goal

pub returns : goal.returns
returns c = search entry_placed
