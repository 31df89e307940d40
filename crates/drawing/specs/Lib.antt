pub mod Arguments
pub mod Answers
pub mod Calls
pub mod PolygonCut
pub mod Wkb
