pub mod ClaimLemmas
pub mod DeliveryLemmas
pub mod PlaceLemmas
pub mod ThreadLemmas
