pub mod KeyLemmas
pub mod Keys
pub mod LedgerLemmas
pub mod LoanRuns
pub mod Pages
