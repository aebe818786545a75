pub mod EffectWordLemmas
pub mod HoldingLemmas
pub mod PageWordLemmas
