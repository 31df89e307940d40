pub mod Bounds
pub mod Served
pub mod Written
