pub mod Numbers
pub mod Listing
pub mod Answers
pub mod Changes
