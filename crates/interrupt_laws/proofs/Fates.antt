pub mod ClaimFateLemmas
pub mod CallFateLemmas
