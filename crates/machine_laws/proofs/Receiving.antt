pub mod ReceiveStepLemmas
pub mod ReceiveWaitLemmas
pub mod ReceivedMessageLemmas
