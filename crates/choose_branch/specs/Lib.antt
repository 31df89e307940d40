pub mod Choose
pub mod Branches
pub mod Cuts
pub mod Least
pub mod Limit
pub mod Pieces
pub mod Removed
