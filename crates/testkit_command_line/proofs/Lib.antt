mod OwningIterators
mod Lines
pub mod Commands
