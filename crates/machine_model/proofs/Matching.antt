pub mod CountLemmas
pub mod LoanSetLawLemmas
pub mod LoanSetStepLemmas
pub mod MatchedLemmas
pub mod OneMessageLemmas
