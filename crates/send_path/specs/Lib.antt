pub mod Arrivals
pub mod Forwarding
pub mod Keeping
pub mod Returning
pub mod Rows
pub mod Seats
pub mod Sending
pub mod Threads
