pub mod FieldLemmas
pub mod StrictlyIncreasing
pub mod KindLemmas
