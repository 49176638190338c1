pub mod Failures
pub mod Lists
pub mod FailedRuns
pub mod Expectations
pub mod steps
