pub mod EventFile
pub mod Held
pub mod Joined
pub mod Lines
pub mod Plays
pub mod Spelling
