pub mod Response
pub mod Stream
pub mod LinesClaim
