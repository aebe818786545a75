pub mod Calling
pub mod Ending
pub mod Matching
pub mod Messaging
pub mod Runs
pub mod State
pub mod StepLemmas
