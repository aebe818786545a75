pub mod ActLemmas
pub mod OrderLemmas
pub mod SettlesLemmas
pub mod StepOfLemmas
pub mod ThreadLemmas
pub mod TidLemmas
