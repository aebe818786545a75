pub mod HomeLemmas
pub mod LoanRowLemmas
pub mod OrphanRowLemmas
pub mod ReadOnlyLemmas
pub mod TwoPageLemmas
