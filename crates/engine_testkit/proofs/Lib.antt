pub mod SinkGrowth
pub mod Emissions
pub mod LockedTables
