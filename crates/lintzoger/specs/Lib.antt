pub mod Exports
pub mod Seen
