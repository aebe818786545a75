pub mod ActLemmas
pub mod EffectLemmas
pub mod SliceLemmas
pub mod StepLemmas
