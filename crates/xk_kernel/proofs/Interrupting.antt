pub mod ClaimLemmas
pub mod DeliveryLemmas
pub mod RaiseLemmas
