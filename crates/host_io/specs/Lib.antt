pub mod Adapters
pub mod PageFile
pub mod ProgramStore
pub mod Reading
