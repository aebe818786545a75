pub mod Consoles
pub mod Endings
pub mod Failings
pub mod Lines
pub mod Names
pub mod Rows
pub mod Texts
