-- `exports::lintzoger_wkb` meets its contract.
use Rattle.drawing_c.proofs.WkbExportReturns.{bytes_fit, bytes_exported, refused_exported}
use Rattle.drawing_c.proofs.exports.lintzoger_wkb.Goals as goal

pub overflow_cast-length : goal.overflow_cast-length
overflow_cast-length c = search bytes_fit

pub returns-in-Ok : goal.returns-in-Ok
returns-in-Ok c = search bytes_exported

pub returns-in-Err : goal.returns-in-Err
returns-in-Err c = search refused_exported
