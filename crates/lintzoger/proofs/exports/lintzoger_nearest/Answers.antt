-- `exports::lintzoger_nearest` meets its contract; the laws that it needs are in ExportReturns.
use Rattle.lintzoger.proofs.ExportReturns.{nearest_found_lem, nearest_refusal}
use Rattle.lintzoger.proofs.exports.lintzoger_nearest.Goals as goal

pub returns-in-Ok : goal.returns-in-Ok
returns-in-Ok c = search nearest_found_lem

pub returns-in-Err : goal.returns-in-Err
returns-in-Err c = search nearest_refusal
