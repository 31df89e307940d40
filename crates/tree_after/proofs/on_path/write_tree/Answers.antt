-- `on_path::write_tree` meets its contract; its returns are in TreeLaws.
use lib.ListN.{length-replicate}
use Rattle.geometry.specs.declared.rect.Line.TheVariants.{AtX}
use Rattle.geometry.specs.declared.rect.Side.TheVariants.{Left}
use Rattle.tree_after.proofs.FrontLaws.{root_none}
use Rattle.tree_after.proofs.PathLaws.{read_unsplit, read_line, path_has}
use Rattle.tree_after.proofs.TreeLaws.{whole_tree_room, whole_tree_lem, split_tree_room, split_tree_lem}
use Rattle.tree_after.proofs.on_path.write_tree.Goals as goal

pub write_half-requires-clause-room : goal.write_half-requires-clause-room
write_half-requires-clause-room c = rw (root_none _ (length-replicate 257 (Left (AtX 0)))) (whole_tree_room _ _ _ _ _ (read_unsplit _ _ _ (path_has _ _ _ c.requires.path_from) c.in-None.is) c.requires.tree_room)

pub write_split-requires-clause-rest_room : goal.write_split-requires-clause-rest_room
write_split-requires-clause-rest_room c = split_tree_room _ _ _ _ _ _ (read_line _ _ _ (path_has _ _ _ c.requires.path_from) _ c.in-Some.is) c.requires.tree_room

pub write_split-requires-clause-line_is : goal.write_split-requires-clause-line_is
write_split-requires-clause-line_is c = read_line _ _ _ (path_has _ _ _ c.requires.path_from) _ c.in-Some.is

pub returns-in-None : goal.returns-in-None
returns-in-None c = whole_tree_lem _ _ _ _ _ (read_unsplit _ _ _ (path_has _ _ _ c.requires.path_from) c.in-None.is) _ _ (rw (root_none _ (length-replicate 257 (Left (AtX 0)))) at c.write_half.ensures.writes)

pub returns-in-Some : goal.returns-in-Some
returns-in-Some c = split_tree_lem _ _ _ _ _ _ (read_line _ _ _ (path_has _ _ _ c.requires.path_from) _ c.in-Some.is) _ _ c.write_split.ensures
