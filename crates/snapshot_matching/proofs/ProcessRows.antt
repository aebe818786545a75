pub mod ClaimLemmas
pub mod ConnectionLemmas
pub mod HeapLemmas
pub mod ProcessLemmas
