pub mod Booting
pub mod Bytes
pub mod Changing
pub mod Using
