-- `exports::lintzoger_insert` meets its contract; the laws that it needs are in ExportReturns.
use Rattle.lintzoger.proofs.ExportReturns.{insert_accepted, insert_refusal}
use Rattle.lintzoger.proofs.exports.lintzoger_insert.Goals as goal

pub returns-in-Ok : goal.returns-in-Ok
returns-in-Ok c = search insert_accepted

pub returns-in-Err : goal.returns-in-Err
returns-in-Err c = search insert_refusal
