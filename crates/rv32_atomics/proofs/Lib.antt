pub mod AmoLemmas
pub mod LeavingLemmas
pub mod PerformingLemmas
pub mod ReadingLemmas
pub mod TableLemmas
