-- What is spelled is read again.
pub mod PageAgainLemmas
pub mod RowAgainLemmas
pub mod RowsAgainLemmas
pub mod StateAgainLemmas
pub mod WordAgainLemmas
