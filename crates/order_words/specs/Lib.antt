pub mod Answers
pub mod Arguments
pub mod Values
pub mod Words
