-- `exports::lintzoger_window` meets its contract; the laws that it needs are in ExportReturns.
use Rattle.lintzoger.proofs.ExportReturns.{window_found, window_short, window_refusal}
use Rattle.lintzoger.proofs.exports.lintzoger_window.Goals as goal
use Rattle.lintzoger.proofs.exports.lintzoger_window.Goals.{in-ShortList, in_default}

pub returns-in-Ok : goal.returns-in-Ok
returns-in-Ok c = search window_found

pub returns-after-refusal : goal.returns-after-refusal
returns-after-refusal c =
    elim c.match-refusal.branch [
      | in-ShortList x ↦ search window_short
      | in_default x ↦ search (window_refusal, x.in_default.not-ShortList)
    ]
