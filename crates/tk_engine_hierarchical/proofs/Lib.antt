pub mod Nested
pub mod Recorded
pub mod Reported
pub mod Stepped
pub mod TreeRuns
pub mod DueKeys
pub mod NodeSteps
