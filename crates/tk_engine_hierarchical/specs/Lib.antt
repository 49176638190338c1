pub mod Causes
pub mod StaticSteps
pub mod Reporting
pub mod TreeRuns
pub mod Laws
pub mod Runs
pub mod steps
