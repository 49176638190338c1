pub mod Members
pub mod Parts
pub mod Nearness
pub mod Candidates
pub mod Laws
pub mod steps
