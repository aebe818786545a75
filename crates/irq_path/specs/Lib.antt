pub mod Delivering
pub mod Placing
