-- `exports::lintzoger_point` meets its contract; the laws that it needs are in ExportReturns.
use Rattle.lintzoger.proofs.ExportReturns.{point_held, point_not_held, point_refusal}
use Rattle.lintzoger.proofs.exports.lintzoger_point.Goals as goal

pub returns-in-Some : goal.returns-in-Some
returns-in-Some c = search point_held

pub returns-in_default : goal.returns-in_default
returns-in_default c = search (point_not_held, c.in_default.not-Some)

pub returns-in-Err : goal.returns-in-Err
returns-in-Err c = search point_refusal
