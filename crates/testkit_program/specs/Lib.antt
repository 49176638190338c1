pub mod Jobs
pub mod Lines
pub mod Statuses
pub mod steps
