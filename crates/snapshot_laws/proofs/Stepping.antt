pub mod EndWordLemmas
pub mod StepWordLemmas
