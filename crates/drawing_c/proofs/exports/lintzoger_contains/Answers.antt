-- `exports::lintzoger_contains` meets its contract.
use Rattle.drawing_c.proofs.ContainsExportReturns.{compared_fits, tested_exported, refused_exported}
use Rattle.drawing_c.proofs.exports.lintzoger_contains.Goals as goal

pub overflow_cast-compared : goal.overflow_cast-compared
overflow_cast-compared c = search compared_fits

pub returns-in-Ok : goal.returns-in-Ok
returns-in-Ok c = search tested_exported

pub returns-in-Err : goal.returns-in-Err
returns-in-Err c = search refused_exported
