-- `on_path::write_before` meets its contract; the laws are in RestLaws.
use Rattle.tree_after.proofs.PathLaws.{read_is}
use Rattle.tree_after.proofs.RestLaws.{before_few}
use Rattle.tree_after.proofs.on_path.write_before.Goals as goal

pub write_branches-requires-clause-to_bound_2 : goal.write_branches-requires-clause-to_bound_2
write_branches-requires-clause-to_bound_2 c =
    rw (read_is c.args.path.now c.args.level c.index-path-level-2.result c.requires.path_step.room) (search before_few)
