pub mod Bytes
pub mod Doubles
pub mod Collection
pub mod Orientation
pub mod Reading
pub mod Kinds
