-- `extra::outside` meets its contract; its returns are in OutsideReturns.
use Rattle.geometry.proofs.CellLaws.{valid_wide, valid_high}
use Rattle.area.proofs.OutsideReturns.{part_wide, part_high, part_less, outside_part, outside_all}
use Rattle.area.proofs.extra.outside.Goals as goal

pub area-a-requires-clause-llx_le_urx : goal.area-a-requires-clause-llx_le_urx
area-a-requires-clause-llx_le_urx c = search valid_wide

pub area-a-requires-clause-lly_le_ury : goal.area-a-requires-clause-lly_le_ury
area-a-requires-clause-lly_le_ury c = search valid_high

pub area-requires-clause-llx_le_urx : goal.area-requires-clause-llx_le_urx
area-requires-clause-llx_le_urx c = search part_wide

pub area-requires-clause-lly_le_ury : goal.area-requires-clause-lly_le_ury
area-requires-clause-lly_le_ury c = search part_high

pub overflow_sub-result : goal.overflow_sub-result
overflow_sub-result c = search part_less

pub returns-in-Some : goal.returns-in-Some
returns-in-Some c = search outside_part

pub returns : goal.returns
returns c = search outside_all
