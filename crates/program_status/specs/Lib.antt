pub mod FaultNames
pub mod Notes
pub mod Plans
pub mod Status
