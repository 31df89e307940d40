pub mod PassLoops
pub mod CoverCells
pub mod SkipLaws
pub mod CoverLaws
