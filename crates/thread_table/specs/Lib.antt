pub mod States
pub mod TidSets
pub mod ThreadMap
pub mod Shown
pub mod Lending
