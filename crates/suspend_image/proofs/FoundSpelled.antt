-- What was read is spelled so.
pub mod PageTakenLemmas
pub mod RowTakenLemmas
pub mod StateTakenLemmas
pub mod TakenLemmas
