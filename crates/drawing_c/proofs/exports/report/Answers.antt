-- `exports::report` meets its contract.
use Prim.Native.Nat.{◌≤◌}
use native.Mathlib.Omega.{arith}
use Rattle.drawing_c.proofs.ExportReturns.{few_wrote}
use Rattle.drawing_c.proofs.exports.report.Goals as goal

pub overflow_cast-written : goal.overflow_cast-written
overflow_cast-written c = let f : c.in-Ok.n ≤ 256 = search few_wrote in omega arith
