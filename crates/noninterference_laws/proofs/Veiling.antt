pub mod EffectLemmas
pub mod EndLemmas
pub mod VeilLemmas
pub mod VerdictLemmas
