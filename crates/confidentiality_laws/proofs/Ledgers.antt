pub mod OtherBytesLemmas
pub mod PairLemmas
pub mod ThroughStepLemmas
