pub mod Recordings
pub mod Counting
pub mod PlanReports
pub mod Answers
pub mod Exactness
pub mod Headline
pub mod Witnesses
