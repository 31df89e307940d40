-- `off_path::write_leaf` meets its contract; its laws are in WriteBelow.
use Rattle.tree_after.proofs.WriteBelow.{leaf_gone, leaf_room, leaf_writes}
use Rattle.tree_after.proofs.off_path.write_leaf.Goals as goal

pub returns-then-remaining-eq0 : goal.returns-then-remaining-eq0
returns-then-remaining-eq0 c = search leaf_gone

pub put_remaining-requires-clause-part_room : goal.put_remaining-requires-clause-part_room
put_remaining-requires-clause-part_room c = search leaf_room

pub returns : goal.returns
returns c = search leaf_writes
