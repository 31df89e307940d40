pub mod Accepted
pub mod Returns
pub mod GrowLoop
pub mod PolygonCutReturns
pub mod ContainsReturns
pub mod WkbReturns
