pub mod Finish
pub mod Headline
pub mod Notes
pub mod Outcome
pub mod StateFiles
pub mod Summary
pub mod Words
