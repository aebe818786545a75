-- Unwindings, and one of a service that keeps a sum.
pub mod ApartLemmas
pub mod GroupLemmas
pub mod LineLemmas
pub mod OthersLemmas
pub mod OwnCallLemmas
pub mod OwnStepLemmas
pub mod PairOthersLemmas
pub mod PairStepLemmas
pub mod RegisterLemmas
pub mod SumLemmas
pub mod WitnessLemmas
