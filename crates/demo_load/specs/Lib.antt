pub mod Code
pub mod Events
pub mod Image
pub mod Totals
