-- Who is to be answered, and who is.
pub mod MarkLemmas
pub mod NotedLemmas
pub mod ProcessLemmas
pub mod ReceivingLemmas
pub mod TellLemmas
