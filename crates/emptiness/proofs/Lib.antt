pub mod MatchRows
pub mod MatchLeaf
pub mod MatchLoop
pub mod CallReturns
