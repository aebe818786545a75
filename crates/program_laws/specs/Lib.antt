pub mod Exchanged
pub mod ExchangedCalls
pub mod Ram
pub mod Resumed
pub mod Starting
pub mod Uninterrupted
pub mod Unwinding
