pub mod Check
pub mod Open
