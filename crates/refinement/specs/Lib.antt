pub mod Changes
pub mod Pairs
pub mod Search
