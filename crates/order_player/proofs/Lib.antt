mod KeptLemmas
mod MoveLemmas
pub mod OrderLemmas
mod QuietLemmas
mod StepLemmas
