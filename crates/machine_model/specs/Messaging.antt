-- Messages: what they are, and the calls that send, receive, return and forward them.
pub mod ForwardCalls
pub mod LoanSets
pub mod MessageCounts
pub mod Messages
pub mod ReceiveCalls
pub mod Receivers
pub mod ReturnCalls
pub mod SendCalls
