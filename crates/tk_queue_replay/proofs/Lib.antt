pub mod Plays
pub mod TurnItems
pub mod ReplaySteps
pub mod ScriptForms
pub mod TurnSteps
pub mod TextSteps
pub mod AnswerIsUnique
