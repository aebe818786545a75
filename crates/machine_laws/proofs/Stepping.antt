pub mod CallNumberLemmas
pub mod CauseCaseLemmas
pub mod CursorStepLemmas
pub mod EveryCallLemmas
pub mod EveryStepLemmas
pub mod StepCaseLemmas
pub mod StepKindLemmas
