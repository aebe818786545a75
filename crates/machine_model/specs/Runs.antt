-- What holds over runs.
pub mod Isolation
pub mod Kept
pub mod LoanSpan
pub mod Matched
pub mod Moments
pub mod Reserving
