pub mod LedgerStepLemmas
pub mod NumberPageLemmas
pub mod OrphanedPageLemmas
pub mod SameRunLemmas
pub mod StoredPageLemmas
