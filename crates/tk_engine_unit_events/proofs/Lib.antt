mod Children
pub mod Emissions
pub mod Emitted
pub mod KeySpans
pub mod LockedTables
mod Outer
pub mod Owned
pub mod Played
mod Registered
pub mod UnitStates
pub mod Shaped
mod Reversed
mod Taken
pub mod UnitSteps
pub mod UnitsOfKeys
