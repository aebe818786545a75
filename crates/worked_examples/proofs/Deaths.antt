pub mod DestroyRowLemmas
pub mod QueuedSenderLemmas
pub mod ServerKilledLemmas
