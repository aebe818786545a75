pub mod AfterLemmas
pub mod CallLemmas
pub mod ChangeLemmas
pub mod ListingLemmas
pub mod PlaceLemmas
pub mod Rings
pub mod Seats
pub mod StartLemmas
