pub mod ReplyReturns
pub mod CodedReturns
pub mod CallReturns
pub mod ReplayLoop
