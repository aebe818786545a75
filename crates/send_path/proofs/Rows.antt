pub mod ReplyLemmas
pub mod RowLemmas
