pub mod AreaLemmas
pub mod OwnerLemmas
pub mod PageLemmas
pub mod WordLemmas
