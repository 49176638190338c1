pub use Rattle.tk_report_text.specs.Reports
pub mod Faults
pub mod Answers
pub mod FaultTexts
