pub mod ListingLemmas
pub mod LowestLemmas
