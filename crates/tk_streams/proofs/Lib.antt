mod Known
pub mod PieceLemmas
