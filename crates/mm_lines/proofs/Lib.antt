pub mod LineLemmas
pub mod NextLemmas
pub mod PieceLemmas
pub mod ReadingLemmas
pub mod RunLemmas
