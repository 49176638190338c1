pub mod Conflicts
pub mod LockAnswers
pub mod AnswerTexts
pub mod Laws
pub mod steps
