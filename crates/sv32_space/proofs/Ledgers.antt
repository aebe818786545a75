pub mod EntryLedgerLemmas
pub mod LoanLedgerLemmas
pub mod PageLedgerLemmas
pub mod SeatByteLemmas
pub mod WholeSeatLemmas
