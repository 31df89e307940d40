-- `candidates::try_branch` meets its contract.
use Rattle.split_line.proofs.TriedLoop.{behind_fits_x, behind_fits_y, behind_llx, behind_urx, behind_lly, behind_ury, four_tried}
use Rattle.split_line.proofs.candidates.try_branch.Goals as goal

pub overflow_add-r : goal.overflow_add-r
overflow_add-r c = search behind_fits_x

pub try_line-first-requires : goal.try_line-first-requires
try_line-first-requires c = search behind_llx

pub try_line-second-requires : goal.try_line-second-requires
try_line-second-requires c = search behind_urx

pub overflow_add-r-2 : goal.overflow_add-r-2
overflow_add-r-2 c = search behind_fits_y

pub try_line-third-requires : goal.try_line-third-requires
try_line-third-requires c = search behind_lly

pub try_line-requires : goal.try_line-requires
try_line-requires c = search behind_ury

pub returns-clause-value : goal.returns-clause-value
returns-clause-value c = search four_tried
