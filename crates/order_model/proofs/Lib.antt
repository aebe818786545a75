mod ChoiceLemmas
pub mod Counting
pub mod EdgeLemmas
pub mod ExitLemmas
mod FailingLemmas
pub mod InterleavingLemmas
pub mod MoveLemmas
pub mod Moving
pub mod OrderLemmas
pub mod PreemptionLemmas
pub mod SliceLemmas
mod TurnLemmas
