pub mod EntryAccess
pub mod Here
pub mod Known
pub mod RunTests
