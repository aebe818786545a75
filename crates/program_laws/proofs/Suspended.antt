pub mod CallLemmas
pub mod RunLemmas
