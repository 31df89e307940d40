pub mod PathWalk
pub mod PointWalk
pub mod WindowWalk
pub mod WindowWrite
pub mod PointReturns
pub mod WindowReturns
pub mod HeldReturns
