pub mod HeldListLemmas
pub mod HolderLemmas
pub mod MachineLemmas
pub mod ReachedLemmas
pub mod SeatLemmas
pub mod SeatSearchLemmas
pub mod SoundLemmas
