pub mod ChainLemmas
pub mod LinkLemmas
pub mod RingLemmas
pub mod SpotLemmas
pub mod TimesLemmas
pub mod WalkLemmas
