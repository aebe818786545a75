-- System calls: their table, and those on memory, threads, servers and interrupts.
pub mod Calls
pub mod InterruptCalls
pub mod MemoryCalls
pub mod Questions
pub mod ServerCalls
pub mod Tables
pub mod ThreadCalls
