pub use Rattle.tk_record.specs.Mixing
pub use Rattle.tk_queue_session.specs.Emission
pub mod Claims
pub mod ClaimWord
pub mod ClaimViews
pub mod FaultTexts
pub mod Run
pub mod Parts
