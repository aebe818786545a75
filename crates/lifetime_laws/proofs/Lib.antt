pub mod Answering
pub mod Apart
pub mod Connecting
pub mod Deadlocks
pub mod Fairness
pub mod Lives
