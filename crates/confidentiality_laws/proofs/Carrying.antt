pub mod CallTableLemmas
pub mod ChangeLemmas
pub mod EffectLemmas
pub mod EndLemmas
pub mod InterruptLemmas
