pub mod CallLemmas
pub mod CauseLemmas
pub mod MovedPageLemmas
pub mod RunLemmas
pub mod StepLemmas
pub mod WrittenPageLemmas
