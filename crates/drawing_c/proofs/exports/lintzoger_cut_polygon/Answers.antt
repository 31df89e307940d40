-- `exports::lintzoger_cut_polygon` meets its contract.
use Prim.Native.Nat.{◌≤◌}
use native.Mathlib.Omega.{arith}
use Rattle.drawing_c.proofs.PolygonCutExportReturns.{few_written, wrote_exported, refused_exported}
use Rattle.drawing_c.proofs.exports.lintzoger_cut_polygon.Goals as goal

pub overflow_cast-written : goal.overflow_cast-written
overflow_cast-written c = let f : c.in-Ok.cut.rects ≤ 256 = search few_written in omega arith

pub returns-in-Ok : goal.returns-in-Ok
returns-in-Ok c = search wrote_exported

pub returns-in-Err : goal.returns-in-Err
returns-in-Err c = search refused_exported
