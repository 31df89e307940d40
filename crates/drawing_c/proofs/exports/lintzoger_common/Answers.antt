-- `exports::lintzoger_common` meets its contract; the laws that it needs are in ExportReturns.
use Rattle.drawing_c.proofs.ExportReturns.{exported}
use Rattle.drawing_c.proofs.exports.lintzoger_common.Goals as goal

pub returns : goal.returns
returns c = search exported
