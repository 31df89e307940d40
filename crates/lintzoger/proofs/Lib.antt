pub mod ExportReturns
pub mod ExportedHistory
pub mod ExportedSamePoints
