-- `on_path::write_half` meets its contract, with the level as its measure; its steps are in HalfLaws.
use Rattle.tree_after.proofs.on_path.+write_half.Given as goal

abbrev pub decreases-write_half : goal.decreases-write_half
decreases-write_half l = l.level
