pub mod ReceiveLemmas
pub mod ReturnLemmas
