pub mod InstructionEffectLemmas
pub mod InstructionStepLemmas
pub mod StoredByteLemmas
