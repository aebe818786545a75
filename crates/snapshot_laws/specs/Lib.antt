pub mod Keeping
pub mod KeepingWords
pub mod Spelled
pub mod Words
