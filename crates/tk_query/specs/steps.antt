pub mod Rules
pub mod Holders
