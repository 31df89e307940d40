-- `stream::keep_rest` meets its contract.
use Rattle.line_program.proofs.StreamLoops.{keep_copied}
use Rattle.line_program.proofs.stream.keep_rest.Goals as goal

pub returns : goal.returns
returns c = rw c.copy_within.ensures.after (keep_copied _ _ _ c.requires.from_le_to c.requires.to_in_bounds _ c.min-kept.ensures)
