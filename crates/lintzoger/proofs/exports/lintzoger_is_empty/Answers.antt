-- `exports::lintzoger_is_empty` meets its contract; the laws that it needs are in ExportReturns.
use Rattle.lintzoger.proofs.ExportReturns.{empty_found, empty_refusal}
use Rattle.lintzoger.proofs.exports.lintzoger_is_empty.Goals as goal

pub returns-in-Ok : goal.returns-in-Ok
returns-in-Ok c = search empty_found

pub returns-in-Err : goal.returns-in-Err
returns-in-Err c = search empty_refusal
