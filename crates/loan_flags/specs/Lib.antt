pub mod Ending
pub mod FreeRuns
pub mod Keeping
pub mod PageLoans
pub mod Sending
