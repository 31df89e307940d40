-- `rect_distance` meets its contract.
use Rattle.distance.proofs.CodeReturns.{wide_of, high_of, found_grid, found_distance}
use Rattle.distance.proofs.squared.rect_distance.Goals as goal

pub clamp_to-x-requires : goal.clamp_to-x-requires
clamp_to-x-requires c = search wide_of

pub clamp_to-y-requires : goal.clamp_to-y-requires
clamp_to-y-requires c = search high_of

pub squared_distance-requires-clause-d_value : goal.squared_distance-requires-clause-d_value
squared_distance-requires-clause-d_value c = search found_grid

pub returns : goal.returns
returns c = search found_distance
