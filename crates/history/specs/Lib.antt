pub mod Calls
pub mod Contract
pub mod Defined
pub mod Emptiness
pub mod Removed
pub mod SameAnswers
pub mod Claim
