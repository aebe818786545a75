pub mod BootLemmas
pub mod FirstLawfulLemmas
pub mod FirstLedgerLemmas
pub mod ResumedLemmas
pub mod StartLemmas
pub mod StartPageLemmas
pub mod UnreservedLemmas
