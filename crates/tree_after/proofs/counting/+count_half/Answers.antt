-- `counting::count_half` meets its contract, with the level as its measure; the counts are in PathCount.
use native.Mathlib.Omega.{arith}
use Rattle.tree_after.proofs.FrontLaws.{slice_from, slice_kept, room_below, first_is, first_room, second_is, second_room, kept_both}
use Rattle.tree_after.proofs.PathLaws.{read_unsplit, read_line, path_leaf, path_step, path_down, path_room}
use Rattle.tree_after.proofs.PathCount.{count_few, whole_count, split_count}
use Rattle.tree_after.proofs.counting.+count_half.Goals as goal

pub count_path_leaf-requires : goal.count_path_leaf-requires
count_path_leaf-requires t c = search path_leaf

pub count_others-beside-requires : goal.count_others-beside-requires
count_others-beside-requires t c = search path_step

pub count_half-whole-requires : goal.count_half-whole-requires
count_half-whole-requires t c = let ne = c.if-level-eq0.false in (omega arith, (search path_down, search room_below))

pub capped_sum-requires-clause-b_le_count_limit : goal.capped_sum-requires-clause-b_le_count_limit
capped_sum-requires-clause-b_le_count_limit t c = count_few _ _ _ c.count_half-whole.ensures.value

pub returns-in_default-clause-value : goal.returns-in_default-clause-value
returns-in_default-clause-value t c =
    let xs = c.args.sides.now in
    let at = c.args.at in
    let a = rw (slice_from xs at) at c.count_others-beside.ensures in
    let b = rw (slice_kept xs at _ c.count_half-whole.ensures.sides_kept) at c.count_node.ensures in
    whole_count _ _ _ _ _ c.if-level-eq0.false c.requires.path_from _ a _ _ _ (read_unsplit _ _ _ (path_room _ _ _ c.if-level-eq0.false c.requires.path_from) c.in_default.is) c.count_half-whole.ensures.value c.capped_sum.ensures b

pub count_half-left-requires : goal.count_half-left-requires
count_half-left-requires t c = let ne = c.if-level-eq0.false in (omega arith, (search path_down, search first_room))

pub count_half-right-requires : goal.count_half-right-requires
count_half-right-requires t c =
    let ne = c.if-level-eq0.false in
    (omega arith, (search path_down, second_room _ _ _ c.requires.sides_room ne _ _ c.count_half-left.ensures.sides_kept _))

pub capped_sum-halves-requires-clause-a_le_count_limit : goal.capped_sum-halves-requires-clause-a_le_count_limit
capped_sum-halves-requires-clause-a_le_count_limit t c = count_few _ _ _ c.count_half-left.ensures.value

pub capped_sum-halves-requires-clause-b_le_count_limit : goal.capped_sum-halves-requires-clause-b_le_count_limit
capped_sum-halves-requires-clause-b_le_count_limit t c = count_few _ _ _ c.count_half-right.ensures.value

pub returns-clause-sides_kept : goal.returns-clause-sides_kept
returns-clause-sides_kept t c = kept_both _ _ _ c.requires.sides_room c.if-level-eq0.false _ _ c.count_half-left.ensures.sides_kept _ _ c.count_half-right.ensures.sides_kept

pub returns-clause-value : goal.returns-clause-value
returns-clause-value t c =
    let xs = c.args.sides.now in
    let at = c.args.at in
    let room = c.requires.sides_room in
    let ne = c.if-level-eq0.false in
    let left = c.count_half-left.ensures in
    let right = c.count_half-right.ensures in
    let kept = kept_both _ _ _ room ne _ _ left.sides_kept _ _ right.sides_kept in
    let a = rw (slice_from xs at) at c.count_others-beside.ensures in
    let b = rw (slice_kept xs at _ kept) at c.count_node-2.ensures in
    split_count _ _ _ _ _ ne c.requires.path_from _ a _ _ _ _ _ _ _ _ (read_line _ _ _ (path_room _ _ _ ne c.requires.path_from) _ c.in-Some.is)
    (first_is _ _ _ room ne _) left.value (second_is _ _ _ room ne _ _ left.sides_kept _) right.value
    c.capped_sum-halves.ensures c.capped_sum-2.ensures b
