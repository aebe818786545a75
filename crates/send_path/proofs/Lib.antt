pub mod Forwards
pub mod Receivers
pub mod Rows
pub mod Sends
pub mod Servers
pub mod Taken
