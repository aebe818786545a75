pub mod Calling
pub mod Ending
pub mod Hart
pub mod Messaging
pub mod Runs
pub mod State
pub mod Stepping
pub mod Worked
