pub mod LedgerByteLemmas
pub mod PageWriteLemmas
pub mod SeatWriteLemmas
pub mod StoreLemmas
pub mod WholePageLemmas
