pub mod Sides
pub mod FullLeaf
pub mod GroupExtent
pub mod Extents
pub mod Tried
pub mod Groups
pub mod GroupExtents
pub mod ExtentRow
