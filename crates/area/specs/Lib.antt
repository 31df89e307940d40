pub mod Bounds
pub mod CellCount
pub mod Lacked
pub mod Removed
