pub mod CallLemmas
pub mod StepLemmas
