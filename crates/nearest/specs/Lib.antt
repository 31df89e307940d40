pub mod Near
pub mod Below
