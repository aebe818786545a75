pub mod HeldLemmas
pub mod JoinedLemmas
pub mod LineLemmas
mod NumberLemmas
pub mod PlayLemmas
pub mod WholeLemmas
mod WrittenLineLemmas
