pub mod EndLemmas
pub mod CondLemmas
pub mod Depth
pub mod Prefixes
pub mod Members
pub mod AnswerIsUnique
pub mod ReaderLemmas
pub mod WritingLemmas
