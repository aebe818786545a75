pub mod ChangeLemmas
pub mod PairLemmas
pub mod StepLemmas
pub mod StepNumberLemmas
