pub mod SeatSums
pub mod ClaimSteps
pub mod Workers
pub mod ClaimLaws
