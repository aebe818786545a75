pub mod ForwardCallLemmas
pub mod ForwardedLedgerLemmas
pub mod ForwardedListLemmas
pub mod ForwardedMessageLemmas
