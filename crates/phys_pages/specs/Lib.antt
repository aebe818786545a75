pub mod Lending
pub mod Owners
pub mod Ram
