pub mod ServedLaws
pub mod AnswerLoop
pub mod TurnLoop
pub mod WrittenLaws
pub mod WrittenLoop
pub mod WrittenTurns
pub mod WrittenRun
