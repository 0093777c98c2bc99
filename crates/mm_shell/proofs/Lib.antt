pub mod FindLemmas
pub mod FitLemmas
pub mod FrameLemmas
pub mod HistoryLemmas
pub mod StepLemmas
