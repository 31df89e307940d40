pub mod Descent
pub mod Removed
pub mod Planning
pub mod Growing
pub mod Insert
