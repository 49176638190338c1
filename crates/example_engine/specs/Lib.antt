pub mod Running
pub mod Suites
