pub mod CauseLemmas
pub mod LedgerLemmas
pub mod RowLemmas
