pub mod Changing
pub mod Exchanging
pub mod Making
pub mod Removing
