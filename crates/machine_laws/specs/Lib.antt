pub mod History
pub mod HistoryMoments
pub mod Interleaving
pub mod Records
pub mod Reserved
