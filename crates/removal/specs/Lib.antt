pub mod Place
pub mod Below
pub mod Tree
