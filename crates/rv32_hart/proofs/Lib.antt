pub mod AccessLemmas
pub mod ExecutingLemmas
