pub mod ArrivalLemmas
pub mod ClosedLendLemmas
pub mod DeadSenderLemmas
pub mod HeldMessageLemmas
pub mod LendMessageLemmas
pub mod LentPageLemmas
