-- `exports::lintzoger_refine` meets its contract; the laws that it needs are in ExportReturns.
use Rattle.drawing_c.proofs.ExportReturns.{exported}
use Rattle.drawing_c.proofs.exports.lintzoger_refine.Goals as goal

pub returns : goal.returns
returns c = search exported
