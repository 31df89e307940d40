-- `place::entry_place` meets its contract; its loop is in PlaceLoops.
use Rattle.removal.proofs.PlaceLoops.{seek_again, seek_found}
use Rattle.removal.proofs.place.entry_place.Goals as goal

pub loop-c-preserved : goal.loop-c-preserved
loop-c-preserved c = search seek_again

pub returns : goal.returns
returns c = search seek_found
