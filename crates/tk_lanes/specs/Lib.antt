pub mod Bits
pub mod Flags
pub mod Lanes
pub mod Lists
pub mod Picks
pub mod steps
