pub mod Cases
pub mod SplitLaws
pub mod NumberLoop
pub mod FieldLoop
pub mod CommandReturns
pub mod TextLaws
pub mod AnswerReturns
