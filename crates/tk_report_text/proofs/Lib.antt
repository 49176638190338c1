pub mod Ids
pub mod Ordered
pub mod SameReports
pub mod LinesById
pub mod ReportParts
pub mod SortedIds
pub mod Tails
