-- `building::insert_on_path` meets its contract; the laws that it needs are in InsertLaws.
use Rattle.insertion.proofs.InsertLaws.{build_right, build_head, build_seven, early_fits, build_early, build_planned}
use Rattle.std.proofs.lemmas.Result.{err_from_is_err_and}
use Rattle.insertion.proofs.building.insert_on_path.Goals as goal

pub returns-in_err-removed : goal.returns-in_err-removed
returns-in_err-removed c =
    let p = err_from_is_err_and c.from_residual.result c.from_residual.ensures.1 in
    rw (p.1, p.2) (search (build_seven, c.in_err-removed.ensures.path_found))

pub part_count-requires : goal.part_count-requires
part_count-requires c = search build_right

pub bits_set-requires : goal.bits_set-requires
bits_set-requires c = search build_head

pub overflow_add-bits_set : goal.overflow_add-bits_set
overflow_add-bits_set c = search (early_fits, c.in_ok-removed.ensures.path_found)

pub returns-then-part_count-bits_set : goal.returns-then-part_count-bits_set
returns-then-part_count-bits_set c = search (build_early, c.in_ok-removed.ensures.path_found)

pub insert_anew-requires-clause-path_planned : goal.insert_anew-requires-clause-path_planned
insert_anew-requires-clause-path_planned c =
    build_planned _ _ _ _ c.requires.inserting _ c.in_ok-removed.ensures.path_found _ c.split_count-splits.ensures _ c.plan.ensures
