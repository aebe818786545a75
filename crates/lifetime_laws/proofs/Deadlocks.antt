pub mod AnswerLemmas
pub mod AskedLemmas
pub mod RunLemmas
