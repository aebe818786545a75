pub mod SheetLemmas
pub mod SpellingLemmas
pub mod WritingLemmas
