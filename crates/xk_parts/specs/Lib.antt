pub mod Comes
pub mod Parts
pub mod Seats
pub mod Shown
pub mod Sound
pub mod Threads
