pub mod Circle
pub mod Connections
pub mod Counting
pub mod RowMap
pub mod Sids
