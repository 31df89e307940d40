-- `extent::grow` meets its contract.
use Rattle.geometry.proofs.CellLaws.{grid_x, grid_y}
use Rattle.plane.specs.Plane.{cell_rect}
use Rattle.split_line.specs.GroupExtent.{extent_add}
use Rattle.split_line.proofs.GroupExtentLaws.{next_x_fits, next_y_fits}
use Rattle.split_line.proofs.extent.grow.Goals as goal

pub grow-requires : goal.grow-requires
grow-requires c = search (grid_x, grid_y)

pub overflow_add-result : goal.overflow_add-result
overflow_add-result c = search next_x_fits

pub overflow_add-result-in-None : goal.overflow_add-result-in-None
overflow_add-result-in-None c = search next_y_fits

pub returns-in-None : goal.returns-in-None
unfolding extent_add cell_rect
returns-in-None c = rw c.in-None.is
