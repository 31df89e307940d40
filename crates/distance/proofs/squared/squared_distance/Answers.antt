-- `squared_distance` meets its contract.
use borrow.Author.Rules.{rules}
use Rattle.distance.specs.Distance.{gap, squared}
use native.Mathlib.Omega.{arith}
use Rattle.distance.proofs.CodeReturns.{x_square, y_square}
use Rattle.distance.proofs.squared.squared_distance.Goals as goal

pub overflow_add-result : goal.overflow_add-result
unfolding gap
overflow_add-result c = omega (arith, x_square _ _ c.requires.c_value c.requires.d_value _ c.abs_diff-dx.ensures, y_square _ _ c.requires.c_value c.requires.d_value _ c.abs_diff-dy.ensures)

pub returns : goal.returns
unfolding gap squared
returns c = search rules
