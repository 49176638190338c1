pub mod Sessions
pub mod Runs
pub mod Records
pub mod Questions
pub mod WitnessValues
