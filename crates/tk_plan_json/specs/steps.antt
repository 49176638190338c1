pub mod Members
pub mod Fields
pub mod CodeValues
pub mod Progress
