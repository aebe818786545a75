pub mod AnsweredLemmas
pub mod ChangeLemmas
pub mod Lemmas
pub mod ListedLemmas
pub mod MadeLemmas
pub mod SavedLemmas
pub mod SeatSearchLemmas
pub mod SerialLemmas
