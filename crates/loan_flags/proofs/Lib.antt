pub mod FreeRunLemmas
pub mod LendRunLemmas
pub mod PageChangeLemmas
pub mod SendingLemmas
pub mod SentLedgerLemmas
pub mod StandingRunLemmas
