pub mod Homes
pub mod Lending
pub mod Orphaned
pub mod Rows
pub mod Seated
