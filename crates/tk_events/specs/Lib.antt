pub mod Event
pub mod Outcomes
pub mod Registration
pub mod Fields
pub mod Pairs
