pub mod ByPidLemmas
pub mod Lemmas
