pub mod CursorLemmas
pub mod OrderLemmas
pub mod RowLemmas
pub mod StartLemmas
