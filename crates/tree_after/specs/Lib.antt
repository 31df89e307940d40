pub mod Writes
pub mod Leaves
pub mod Parts
pub mod Path
pub mod Rows
pub mod Whole
pub mod Sides
