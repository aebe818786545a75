pub mod DeliveryOrderLemmas
pub mod EndLemmas
pub mod GivenUpLemmas
pub mod LandLemmas
pub mod PlaceLemmas
pub mod SinceLemmas
