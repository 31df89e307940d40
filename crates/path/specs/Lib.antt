pub mod Level
pub mod Path
