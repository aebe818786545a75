pub mod ForwardLemmas
pub mod ForwardSoundLemmas
