pub mod ActLemmas
pub mod CauseLemmas
pub mod ShadeLemmas
pub mod StepLemmas
