pub mod LeastRunLemmas
pub mod RunTestLemmas
