-- `check::check_leaf` meets its contract; the laws that it needs are in CheckLoops.
use borrow.Author.Tests.{not-true, not-false}
use Rattle.soundness.proofs.CheckLoops.{leaf_unfit, leaf_outside, leaf_double, leaf_sound, sound_in, sound_part}
use Rattle.soundness.proofs.check.check_leaf.Goals as goal

pub returns-then-not-head_fits : goal.returns-then-not-head_fits
returns-then-not-head_fits c = search (leaf_unfit, not-true)

pub part_at-p-requires : goal.part_at-p-requires
part_at-p-requires c = search (sound_in, not-false)

pub entries_inside-requires : goal.entries_inside-requires
entries_inside-requires c = search (sound_part, not-false)

pub returns-then-not-entries_inside : goal.returns-then-not-entries_inside
returns-then-not-entries_inside c = search (leaf_outside, not-true, not-false)

pub entries_apart-requires : goal.entries_apart-requires
entries_apart-requires c = search (sound_part, not-false)

pub returns-then-not-entries_apart : goal.returns-then-not-entries_apart
returns-then-not-entries_apart c = search (leaf_double, not-true, not-false)

pub returns : goal.returns
returns c = search (leaf_sound, not-false)
