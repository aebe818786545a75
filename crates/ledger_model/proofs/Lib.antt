mod ExampleLemmas
pub mod LedgerLemmas
pub mod LivingLemmas
pub mod Loans
pub mod LocalityLemmas
pub mod NarrowerLemmas
pub mod OwnerLemmas
pub mod Pages
pub mod PlaceLemmas
pub mod ReachingLemmas
pub mod Runs
pub mod Stepping
