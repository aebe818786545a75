pub mod Arming
pub mod Balance
pub mod Busy
pub mod Delivering
pub mod Raising
pub mod Starting
pub mod TimerLaw
