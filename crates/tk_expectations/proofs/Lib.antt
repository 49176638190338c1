pub mod Judging
pub mod LastEvents
