pub mod ExportReturns
pub mod PolygonCutExportReturns
pub mod ContainsExportReturns
pub mod WkbExportReturns
pub mod WkbClaimed
