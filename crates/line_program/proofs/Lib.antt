pub mod ReadsLaws
pub mod OpeningLaws
pub mod ResponseReturns
pub mod RunLaws
pub mod StreamLaws
pub mod StreamLoops
pub mod LinesHistory
