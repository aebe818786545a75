pub mod FilledLemmas
pub mod HeldLemmas
pub mod MessageLemmas
pub mod SeatLemmas
