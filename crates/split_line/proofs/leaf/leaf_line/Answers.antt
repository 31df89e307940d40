-- `leaf::leaf_line` meets its contract.
use Rattle.split_line.proofs.SumLaws.{product_x_fits, product_y_fits, square_x_fits, square_y_fits, spread_x_some, spread_y_some, mean_x_fits, mean_y_fits, line_x_fits, line_y_fits, leaf_at_x, leaf_at_y}
use Rattle.split_line.proofs.leaf.leaf_line.Goals as goal

pub overflow_mul-spread_x : goal.overflow_mul-spread_x
overflow_mul-spread_x c = search product_x_fits

pub overflow_mul-spread_x-2 : goal.overflow_mul-spread_x-2
overflow_mul-spread_x-2 c = search square_x_fits

pub overflow_sub-spread_x : goal.overflow_sub-spread_x
overflow_sub-spread_x c = search spread_x_some

pub overflow_mul-spread_y : goal.overflow_mul-spread_y
overflow_mul-spread_y c = search product_y_fits

pub overflow_mul-spread_y-2 : goal.overflow_mul-spread_y-2
overflow_mul-spread_y-2 c = search square_y_fits

pub overflow_sub-spread_y : goal.overflow_sub-spread_y
overflow_sub-spread_y c = search spread_y_some

pub overflow_cast-result : goal.overflow_cast-result
overflow_cast-result c = search mean_y_fits

pub overflow_add-result : goal.overflow_add-result
overflow_add-result c = search line_y_fits

pub returns-then-spread_x-spread_y : goal.returns-then-spread_x-spread_y
returns-then-spread_x-spread_y c = search leaf_at_y

pub overflow_cast-result-else-spread_x-spread_y : goal.overflow_cast-result-else-spread_x-spread_y
overflow_cast-result-else-spread_x-spread_y c = search mean_x_fits

pub overflow_add-result-else-spread_x-spread_y : goal.overflow_add-result-else-spread_x-spread_y
overflow_add-result-else-spread_x-spread_y c = search line_x_fits

pub returns-else-spread_x-spread_y : goal.returns-else-spread_x-spread_y
returns-else-spread_x-spread_y c = search leaf_at_x
