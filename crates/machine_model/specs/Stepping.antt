-- Steps and events.
pub mod Acts
pub mod Events
pub mod Interrupts
pub mod Reservations
pub mod Step
pub mod Timer
