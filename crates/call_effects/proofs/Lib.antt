pub mod FootprintLemmas
pub mod HeldLemmas
pub mod LeadingLemmas
pub mod MeantLemmas
pub mod PartLemmas
pub mod ServedLemmas
pub mod Viewing
