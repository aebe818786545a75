pub mod CloseManyLemmas
pub mod ClosingLemmas
pub mod DeathLemmas
