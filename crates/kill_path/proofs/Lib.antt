pub mod KeepLemmas
pub mod FitLemmas
pub mod Servers
pub mod Threads
pub mod Messages
pub mod Deaths
pub mod TakenAll
