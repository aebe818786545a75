pub mod AskedFileLemmas
pub mod PageLemmas
pub mod ReadingLemmas
pub mod ToldLemmas
