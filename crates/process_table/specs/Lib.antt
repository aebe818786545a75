pub mod ProcessMap
pub mod Shown
pub mod State
