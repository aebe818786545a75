-- State bytes: how long they are, that they are read as the state that they spell, and that each file that is read is state bytes.
pub mod AlikeLemmas
pub mod ClaimAgainLemmas
pub mod EntryLemmas
pub mod PlacedAgainLemmas
pub mod RiseLemmas
pub mod RoomLemmas
pub mod RowBackLemmas
pub mod SavingLemmas
pub mod ServerAgainLemmas
pub mod StateAgainLemmas
pub mod StateBackLemmas
pub mod ThreadAgainLemmas
