pub mod LendLemmas
pub mod MadeLemmas
pub mod MatchedLoanLemmas
