pub mod Headline
pub mod Images
pub mod Outcome
pub mod Output
