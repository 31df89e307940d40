pub mod Layout
pub mod SoundTest
pub mod Reading
pub mod Reached
pub mod Image
pub mod TreeIn
