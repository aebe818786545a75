pub mod Listed
pub mod Seats
pub mod ServersOf
pub mod ServerState
