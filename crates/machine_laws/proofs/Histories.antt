pub mod HistoryLemmas
pub mod InterleavingLemmas
pub mod LimitLemmas
pub mod MomentLemmas
pub mod RecordLemmas
pub mod ReservedLemmas
