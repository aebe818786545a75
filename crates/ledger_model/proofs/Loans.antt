pub mod NumberingLemmas
pub mod OfNumberLemmas
