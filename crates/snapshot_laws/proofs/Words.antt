pub mod RegisterLemmas
pub mod SignedLemmas
