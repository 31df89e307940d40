-- `exports::lintzoger_remove` meets its contract; the laws that it needs are in ExportReturns.
use Rattle.lintzoger.proofs.ExportReturns.{remove_accepted, remove_refusal}
use Rattle.lintzoger.proofs.exports.lintzoger_remove.Goals as goal

pub returns-in-Ok : goal.returns-in-Ok
returns-in-Ok c = search remove_accepted

pub returns-in-Err : goal.returns-in-Err
returns-in-Err c = search remove_refusal
