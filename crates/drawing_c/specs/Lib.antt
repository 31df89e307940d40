pub mod Exports
pub mod WkbClaim
