pub mod Best
pub mod Lines
pub mod Candidates
pub mod Plane
pub mod Windows
pub mod Fanout
