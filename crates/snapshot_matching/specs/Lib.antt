pub mod LendParts
pub mod ProcessParts
pub mod ServerParts
pub mod ThreadParts
pub mod UnmatchedParts
pub mod WaitParts
