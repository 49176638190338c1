pub use Rattle.tk_streams.specs.Stream
pub use Rattle.tk_record.specs.Recorded
pub mod Labels
pub mod Reports
pub mod GroupedLines
pub mod Laws
pub mod steps
