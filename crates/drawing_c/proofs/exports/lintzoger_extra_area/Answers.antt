-- `exports::lintzoger_extra_area` meets its contract.
use Rattle.drawing_c.proofs.ExportReturns.{area_number, area_reported, unfit_number, unfit_reported}
use Rattle.drawing_c.proofs.exports.lintzoger_extra_area.Goals as goal

pub returns-in-Ok-clause-value : goal.returns-in-Ok-clause-value
returns-in-Ok-clause-value c = search area_number

pub returns-in-Ok-clause-extra_after : goal.returns-in-Ok-clause-extra_after
returns-in-Ok-clause-extra_after c = search area_reported

pub returns-in-Err-clause-value : goal.returns-in-Err-clause-value
returns-in-Err-clause-value c = search unfit_number

pub returns-in-Err-clause-extra_after : goal.returns-in-Err-clause-extra_after
returns-in-Err-clause-extra_after c = search unfit_reported
