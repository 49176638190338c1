pub mod KeyStates
pub mod Progress
