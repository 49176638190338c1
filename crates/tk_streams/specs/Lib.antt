pub mod Stream
pub mod FaultTexts
pub mod Pieces
pub mod steps
