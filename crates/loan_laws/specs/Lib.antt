pub mod Fates
pub mod Leaving
