pub mod Replies
pub mod Coded
pub mod Replay
