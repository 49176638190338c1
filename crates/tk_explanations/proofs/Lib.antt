mod ExplanationRows
mod Spans
mod PieceRows
mod RowLemmas
mod UnlikeLemmas
mod FirstFits
mod Stuck
pub mod OneExplanation
mod SearchLemmas
mod Readers
