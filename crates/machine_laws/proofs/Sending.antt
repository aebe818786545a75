pub mod SendCallLemmas
pub mod SendLedgerLemmas
pub mod SendStepLemmas
pub mod SentLedgerLemmas
pub mod SentMessageLemmas
pub mod SentReceiverLemmas
pub mod SentThreadLemmas
