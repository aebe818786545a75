pub mod CommandLemmas
pub mod MatchedStartLemmas
pub mod RamLemmas
pub mod RunLemmas
