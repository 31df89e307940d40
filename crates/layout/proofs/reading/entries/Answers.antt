-- `reading::entries` meets its contract.
use Rattle.layout.proofs.EntryLists.{part_entries}
use Rattle.layout.proofs.reading.entries.Goals as goal

pub returns : goal.returns
returns c = search part_entries
