pub mod LendRowLemmas
pub mod LoanSetLemmas
pub mod OrphanSetLemmas
