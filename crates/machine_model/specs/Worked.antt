-- Worked rows on small machines.
pub mod LendRows
pub mod MapRows
pub mod Rows
pub mod ServerRows
