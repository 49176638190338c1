pub mod Arguments
pub mod CommandLines
pub mod steps
