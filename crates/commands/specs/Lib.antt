pub mod Bytes
pub mod Split
pub mod Fields
pub mod Commands
pub mod Text
pub mod Output
pub mod AnswerText
