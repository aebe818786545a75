pub mod Chains
pub mod Linking
pub mod Listings
pub mod Messages
pub mod Rings
pub mod Seats
pub mod Shown
pub mod Spots
