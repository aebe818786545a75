pub mod Differences
pub mod EmptyPlaces
pub mod TwoHistories
pub mod TwoRuns
