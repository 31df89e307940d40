-- `building::find_path` meets its contract; the laws that it needs are in RootLaws.
use Rattle.path.proofs.PutLaws.{level_put_is}
use Rattle.insertion.proofs.RootLaws.{root_in_lem, cell_x, cell_y, find_start, find_removed, find_found}
use Rattle.insertion.proofs.building.find_path.Goals as goal

pub first_rect-r-requires : goal.first_rect-r-requires
first_rect-r-requires c = search root_in_lem

pub grow-requires-clause-x_bound : goal.grow-requires-clause-x_bound
grow-requires-clause-x_bound c = search cell_x

pub grow-requires-clause-y_bound : goal.grow-requires-clause-y_bound
grow-requires-clause-y_bound c = search cell_y

pub descend-requires-clause-descending : goal.descend-requires-clause-descending
descend-requires-clause-descending c = search (find_start, level_put_is)

pub returns-clause-path_found : goal.returns-clause-path_found
returns-clause-path_found c = search (find_found, level_put_is)

pub returns-clause-removed_found : goal.returns-clause-removed_found
returns-clause-removed_found c =
    find_removed _ _ _ _ c.requires.inserting _ _ c.requires.has_level _
    (level_put_is _ _ c.requires.has_level _ _ _ c.of-2.ensures c.of.ensures.fits) _ c.of.ensures _ c.grow.ensures
    c.first_rect-r.ensures c.descend.result c.descend.ensures.removed_below
