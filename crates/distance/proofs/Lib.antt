pub mod DistanceLaws
pub mod CodeReturns
pub mod LeastLoop
