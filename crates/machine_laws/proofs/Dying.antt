pub mod DeathClosingLemmas
pub mod DeathForgetLemmas
pub mod DeathHeldLemmas
pub mod DeathLemmas
pub mod DeathLoanLemmas
pub mod DeathStepLemmas
pub mod StoppedThreadLemmas
