pub mod Replay
pub mod Reading
