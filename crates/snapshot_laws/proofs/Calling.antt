pub mod AnswerWordLemmas
pub mod RowWordLemmas
