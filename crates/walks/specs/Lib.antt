pub mod Walks
pub mod Children
pub mod Count
