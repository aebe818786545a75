pub mod Carrying
pub mod Histories
pub mod Isolating
pub mod Keeping
pub mod Ledgers
pub mod Spreading
