pub mod PageFileLemmas
pub mod ReadingLemmas
pub mod ToldLemmas
