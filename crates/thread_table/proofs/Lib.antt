pub mod CountLemmas
pub mod ListingLemmas
pub mod PlaceLemmas
mod EmptyingLemmas
mod LendingLemmas
pub mod ReceiverLemmas
pub mod TidLemmas
pub mod MarkLemmas
mod TurnLemmas
