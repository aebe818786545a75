pub mod HistoryLemmas
pub mod RunLemmas
