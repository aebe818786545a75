-- The messages of servers, and how they end.
pub mod EndingLemmas
pub mod OpenLemmas
pub mod CloseLemmas
pub mod CloseAllLemmas
