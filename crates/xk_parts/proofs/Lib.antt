pub mod LawfulLemmas
pub mod ThreadLemmas
