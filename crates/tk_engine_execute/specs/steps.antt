pub mod EventCollectors
pub mod Outcomes
pub mod PreparedRuns
pub mod WorkerParts
pub mod WorkerThreads
pub mod Workers
