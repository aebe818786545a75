pub mod Fates
pub mod Leaving
pub mod Lending
pub mod Spans
