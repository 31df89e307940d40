pub mod Point
pub mod Window
pub mod Held
