pub mod CallViews
pub mod Deciding
pub mod Effects
pub mod Footprints
pub mod Held
pub mod Rows
pub mod Verdicts
