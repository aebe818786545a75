pub mod Meaning
pub mod Performing
pub mod Reading
pub mod Table
