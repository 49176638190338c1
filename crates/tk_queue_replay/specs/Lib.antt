pub mod Replay
pub mod Script
pub mod TurnItems
pub mod ReplayText
pub mod Laws
pub mod FaultTexts
pub mod steps
