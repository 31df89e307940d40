-- `exports::lintzoger_clear` meets its contract; the laws that it needs are in ExportReturns.
use Rattle.lintzoger.proofs.ExportReturns.{clear_accepted, clear_refusal}
use Rattle.lintzoger.proofs.exports.lintzoger_clear.Goals as goal

pub returns-in-Ok : goal.returns-in-Ok
returns-in-Ok c = search clear_accepted

pub returns-in-Err : goal.returns-in-Err
returns-in-Err c = search clear_refusal
