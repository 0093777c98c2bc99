pub mod AskedLemmas
pub mod NameLemmas
pub mod ReplyLemmas
pub mod RunLemmas
pub mod LawLemmas
pub mod LogLemmas
pub mod HistoryLemmas
