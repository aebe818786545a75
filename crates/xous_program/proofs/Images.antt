pub mod ConvertLemmas
pub mod MatchedLemmas
pub mod StartingLemmas
