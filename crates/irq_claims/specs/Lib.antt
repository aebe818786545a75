pub mod ClaimMap
pub mod ClaimsOf
